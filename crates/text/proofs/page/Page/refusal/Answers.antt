-- `text::page::Page::refusal` meets its contract. Assumes nothing.
use Rattle.std.proofs.Common.{sym, ◌∙◌}
use Rattle.text.proofs.Writing.{says_as, says_then}
use Rattle.text.proofs.Answering.{refusal_early, refusal_late}
use Rattle.text.proofs.page.Page.refusal.Goals as goal
use Rattle.text.proofs.page.Page.refusal.Goals.{then-is_late, else-is_late}

pub returns-clause-wrote : goal.returns-clause-wrote
returns-clause-wrote c = elim c.if-is_late.branch [
  | then-is_late w ↦ says_as (refusal_late c.args.a (sym c.is_late.ensures ∙ w.if-is_late.true)) (says_then w.search_line.ensures.wrote (rw w.self-is at c.refused_of.ensures.wrote))
  | else-is_late w ↦ says_as (refusal_early c.args.a (sym c.is_late.ensures ∙ w.if-is_late.false)) (rw w.self-is at c.refused_of.ensures.wrote)
]
