use mathlib.Core.Path.{◌≡◌, refl, ap, ap₂}
use mathlib.Core.Bool.{true}
use Prim.Native.Nat.{ℕ, ◌+◌, ◌-◌}
use Rattle.solver.specs.Rows.{reduced, less_in, row_in}
use Rattle.laws.proofs.Loops.{again, ended}
use Rattle.laws.proofs.Choices.{if_true, if_false}
use native.Mathlib.Omega.{arith}
use Rattle.solver.proofs.rows.less.Goals as goal

pub returns-then-factor : goal.returns-then-factor
unfolding row_in
returns-then-factor c = λ (u rest : ℕ) e.
    let a = c.args in
    let k : a.left - (6 - a.col) - rest ≡ u = omega (arith, e) in
    (if_true _ c.if-factor.true (ap (reduced true a.m.now) k), omega (arith, e))

pub loop-j-init : goal.loop-j-init
unfolding less_in
loop-j-init c = refl

pub loop-j-preserved : goal.loop-j-preserved
loop-j-preserved c = again _ _ _ c.loop-j-test.true refl c.loop-j.invariant

pub returns : goal.returns
unfolding row_in
returns c = λ (u rest : ℕ) e.
    let a = c.args in
    let k : a.left - rest ≡ u + (6 - a.col) = omega (arith, e) in
    (if_false _ c.if-factor.false (ap₂ (reduced true) (ended _ _ _ c.loop-j-test.false c.loop-j.invariant) k), omega (arith, e))
