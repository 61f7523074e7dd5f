-- `text::page::Page::accepted` meets its contract. Assumes nothing.
use Rattle.std.proofs.Common.{sym, ◌∙◌}
use Rattle.text.proofs.Writing.{says_none, says_as, says_then}
use Rattle.text.proofs.Answering.{too_many, accepted_full}
use Rattle.text.proofs.page.Page.accepted.Goals as goal

pub returns-then-few-clause-wrote : goal.returns-then-few-clause-wrote
returns-then-few-clause-wrote c =
    says_as (accepted_full _ _ _ c.args.residuals.now c.args.capped.now (sym c.few.ensures ∙ c.if-few.true))
    (says_then c.read_line.ensures.wrote (says_then c.figures.ensures.wrote (says_then c.capped_line.ensures.wrote c.point_lines.ensures.wrote)))

pub returns-else-few-clause-wrote : goal.returns-else-few-clause-wrote
returns-else-few-clause-wrote c = says_as (too_many _ _ _ c.args.residuals.now c.args.capped.now (sym c.few.ensures ∙ c.if-few.false)) (says_none _)
