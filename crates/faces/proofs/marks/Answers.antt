use mathlib.Core.Path.{refl, sym, ap, ◌∙◌}
use mathlib.Core.Bool.{true}
use Prim.Native.Nat.{ℕ}
use native.Mathlib.Omega.{arith}
use lib.ListN.{length, set, length-set}
use lib.Seq.{set_out}
use Rattle.laws.proofs.Loops.{again, ended}
use Rattle.faces.specs.Faces.{face_marks}
use Rattle.faces.proofs.marks.Goals as goal
use Rattle.faces.proofs.marks.Goals.{then-c-lt7, else-c-lt7}

pub loop-s-init : goal.loop-s-init
unfolding face_marks
loop-s-init c = (refl, refl)

pub loop-s-preserved : goal.loop-s-preserved
loop-s-preserved c = let l = c.loop-s in
    let e = c.member-c.ensures in
    let is = ap (λ (m : ℕ). set l.t m true) e in
    let next = again _ _ _ c.loop-s-test.true in
    elim c.if-c-lt7.branch [
      | then-c-lt7 w ↦ (ap length w.t-is ∙ length-set l.t _ true ∙ l.invariant.0, next (w.t-is ∙ is) l.invariant.1)
      | else-c-lt7 w ↦ (ap length w.t-is ∙ l.invariant.0, next (w.t-is ∙ sym (set_out l.t _ true (omega (arith, w.if-c-lt7.false, l.invariant.0))) ∙ is) l.invariant.1)
    ]

pub returns : goal.returns
returns c = ended _ _ _ c.loop-s-test.false c.loop-s.invariant.1
