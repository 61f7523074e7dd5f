use mathlib.Core.Path.{◌≡◌, refl, sym, ap, ◌∙◌}
use mathlib.Core.List.{List}
use Prim.Native.Nat.{ℕ}
use lib.Ieee.{Float}
use Rattle.solver.specs.Rows.{spot, pivot_in}
use Rattle.laws.specs.Floats.{unsigned_of}
use Rattle.laws.proofs.Loops.{again, ended}
use Rattle.laws.proofs.Choices.{if_true, if_false}
use Rattle.solver.proofs.Steps.{ranked_least, ranked_nan, ranked_not}
use native.Mathlib.Omega.{arith}
use Rattle.solver.proofs.rows.pivot.Goals as goal
use Rattle.solver.proofs.rows.pivot.Goals.{then-top-size, else-top-size+then-is_nan, else-top-size+else-is_nan}

pub loop-i-init : goal.loop-i-init
unfolding pivot_in
loop-i-init c = (c.requires, c.unsigned-top.ensures, refl)

-- the largest magnitude is that of the row
there : (m : List Float) (col : ℕ) {p q : ℕ} {top : Float} → top ≡ unsigned_of (spot m p col) → q ≡ p → top ≡ unsigned_of (spot m q col)
there m col e h = e ∙ ap (λ (p : ℕ). unsigned_of (spot m p col)) (sym h)

pub loop-i-preserved : goal.loop-i-preserved
loop-i-preserved c =
    let l = c.loop-i in
    let a = c.args in
    let size = c.unsigned-size.ensures in
    let m = a.m.now in
    let next = again _ _ _ c.loop-i-test.true in
    elim c.if-top-size.branch [
      | then-top-size w ↦ (omega arith, there m a.col (w.top-is ∙ size) w.p-is, next (if_true _ (ranked_least _ _ _ _ l.invariant.1 size w.if-top-size.true) w.p-is) l.invariant.2)
      | else-top-size+then-is_nan w ↦ (omega arith, there m a.col (w.top-is ∙ size) w.p-is, next (if_true _ (ranked_nan _ _ _ _ l.invariant.1 size (sym w.is_nan.ensures.value ∙ w.if-is_nan.true)) w.p-is) l.invariant.2)
      | else-top-size+else-is_nan w ↦ (omega arith, there m a.col (w.top-is ∙ l.invariant.1) w.p-is, next (if_false _ (ranked_not _ _ _ _ l.invariant.1 size w.if-top-size.false (sym w.is_nan.ensures.value ∙ w.if-is_nan.false)) w.p-is) l.invariant.2)
    ]

pub returns : goal.returns
returns c = (ended _ _ _ c.loop-i-test.false c.loop-i.invariant.2, c.loop-i.invariant.0)
