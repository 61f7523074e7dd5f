-- `text::page::Page::digits` meets its contract. Assumes nothing.
use Rattle.std.proofs.Common.{arith, ◌-◌, ◌/◌}
use Rattle.text.proofs.Writing.{says_none, says_as, says_then, digits_none, digits_first, digits_more, digits_short}
use Rattle.text.proofs.page.Page.+digits.Goals as goal
use Rattle.text.proofs.page.Page.+digits.Goals.{then-stop-n, else-stop-n}

pub returns-then-f-eq0 : goal.returns-then-f-eq0
returns-then-f-eq0 t c = says_as (digits_none _ _ _ _ c.if-f-eq0.true) (says_none _)

pub put-requires : goal.put-requires
put-requires t c = elim c.if-stop-n.branch [
  | then-stop-n w ↦ rw w.self-is (omega (arith, c.requires, w.digits.ensures.wrote.next, digits_short c.args.base c.args.stop (c.args.f - 1) (c.args.n / c.args.base)))
  | else-stop-n w ↦ rw w.self-is (omega (arith, c.requires))
]

pub returns : goal.returns
returns t c = elim c.if-stop-n.branch [
  | then-stop-n w ↦ says_as (digits_more c.args.base c.args.stop c.args.f c.args.n _ (omega arith) w.if-stop-n.true c.glyph.ensures) (says_then w.digits.ensures (rw w.self-is at c.put.ensures))
  | else-stop-n w ↦ says_as (digits_first c.args.base c.args.stop c.args.f c.args.n _ (omega arith) w.if-stop-n.false c.glyph.ensures) (rw w.self-is at c.put.ensures)
]
