-- `house::is_same` meets its contract. Assumes nothing.
use Rattle.std.proofs.Common.{sym, ap, ◌∙◌}
use borrow.Author.Tests.{ne_eqb}
use Rattle.house.specs.File.{quote_of}
use Rattle.house.specs.Repeats.{same_content}
use Rattle.house.proofs.Repeating.{same_no, same_yes}
use Rattle.house.proofs.is_same.Goals as goal

pub returns-then-same_number : goal.returns-then-same_number
returns-then-same_number c =
    c.same_content.ensures ∙ ap (λ x. same_content x c.args.q) c.quote_of.ensures
    ∙ same_yes c.args.q (quote_of c.args.bytes.now) (sym c.number_of.ensures ∙ c.if-same_number.true)

pub returns-else-same_number : goal.returns-else-same_number
returns-else-same_number c = ne_eqb _ _ c.if-same_number.false ∙ same_no c.args.q (quote_of c.args.bytes.now) (λ z. c.if-same_number.false (c.number_of.ensures ∙ z))
