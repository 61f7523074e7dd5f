use mathlib.Core.Path.{◌≡◌, refl, sym, ap, subst, ◌∙◌}
use Prim.Native.Nat.{ℕ, ◌+◌, ◌-◌, ◌*◌, ◌≤◌, ◌<◌}
use native.Mathlib.Omega.{arith}
use lib.ListN.{length, take, drop, get_or}
use lib.Ieee.{Float, nan, lt}
use mathlib.Core.Bool.{cond}
use Rattle.solver.specs.Solve.{row_scale_of}
use Rattle.laws.specs.Floats.{unsigned_of}
use Rattle.laws.proofs.Loops.{again, ended}
use Rattle.solver.specs.Rows.{NotBelowZero}
use Rattle.solver.proofs.Steps.{zero_not_below, larger_step, step_not_below}
use Rattle.solver.proofs.Copies.{piece_at, piece_length}
use Rattle.solver.proofs.row_scale.Goals as goal

pub loop-x-init : goal.loop-x-init
unfolding row_scale_of
loop-x-init c = (refl, zero_not_below)

pub loop-x-preserved : goal.loop-x-preserved
loop-x-preserved c = let b = c.loop-x in
    let a = c.args in
    let k : a.i * 6 + a.n - a.i * 6 ≡ a.n = omega arith in
    let below : b.x-index < a.n = omega (arith, c.loop-x-test.true, ap (λ (k : ℕ). length (take k (drop (a.i * 6) a.m.now))) k, piece_length a.m.now (a.i * 6) a.n (omega (arith, c.requires.0, c.requires.1, c.told-m))) in
    let read = c.quiet.ensures ∙ ap (λ (k : ℕ). get_or (take k (drop (a.i * 6) a.m.now)) b.x-index nan) k ∙ piece_at a.m.now (a.i * 6) a.n b.x-index below in
    let step = c.larger-acc.ensures ∙ ap (λ (u : Float). cond (lt b.acc u) u b.acc) (c.unsigned.ensures ∙ ap unsigned_of read) ∙ larger_step _ _ b.invariant.1 in
    (again _ _ _ below step b.invariant.0, subst NotBelowZero (sym step) (step_not_below _ _ b.invariant.1))

pub returns : goal.returns
returns c = let l = c.loop-x in
    let a = c.args in
    let k : a.i * 6 + a.n - a.i * 6 ≡ a.n = omega arith in
    let all : a.n ≤ l.x-index = omega (arith, c.loop-x-test.false, ap (λ (k : ℕ). length (take k (drop (a.i * 6) a.m.now))) k, piece_length a.m.now (a.i * 6) a.n (omega (arith, c.requires.0, c.requires.1, c.told-m))) in
    (ended _ _ _ all l.invariant.0, l.invariant.1)
