-- `text::page::Page::marks` meets its contract. Assumes nothing.
use Rattle.std.proofs.Common.{arith, refl, ◌∷◌, [], false, cond, get_or}
use Rattle.laws.specs.Loop.{turns}
use Rattle.text.specs.Digits.{marks_of}
use Rattle.text.proofs.Writing.{says_none, piece_more, piece_done}
use Rattle.text.proofs.page.Page.marks.Goals as goal
use Rattle.text.proofs.page.Page.marks.Goals.{then-mark, else-mark}

pub loop-mark-init : goal.loop-mark-init
unfolding turns
loop-mark-init c = (omega arith, says_none _)

pub loop-mark-preserved : goal.loop-mark-preserved
loop-mark-preserved c = (
  omega (arith, c.put.ensures.wrote.next),
  piece_more (λ i. cond (get_or c.args.active.now i false) 49 48 ∷ []) c.loop-mark.mark-index
      (elim c.if-mark.branch [ then-mark w ↦ rw (w.put-is, w.if-mark.true) refl | else-mark w ↦ rw (w.put-is, w.if-mark.false) refl ])
      c.loop-mark.invariant.1 c.put.ensures,
)

pub returns : goal.returns
unfolding marks_of
returns c = record { wrote = piece_done (λ i. cond (get_or c.args.active.now i false) 49 48 ∷ []) c.loop-mark.mark-index 7 (omega arith) c.loop-mark.invariant.1; upper_bound = omega arith }
