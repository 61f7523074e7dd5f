-- `solver::rows::pivot` meets its contract. Assumes nothing.
use mathlib.Core.Path.{◌≡◌}
use mathlib.Core.Bool.{cond}
use Prim.Native.Nat.{◌-◌, ◌<◌}
use Rattle.solver.specs.Solve.{ranked}
use Rattle.solver.specs.Rows.{spot, pivot_in}
use Rattle.laws.specs.Floats.{abs_of, unsigned_of}
use Rattle.laws.specs.Loop.{for}
use Rattle.solver.proofs.rows.pivot.Given as goal

abbrev pub invariant-loop-i : goal.invariant-loop-i
invariant-loop-i l = (l.p < 6) × (l.top ≡ unsigned_of (spot l.m l.p l.col))
    × (for l.i 6 (λ i p. cond (ranked (abs_of (spot l.m p l.col)) (abs_of (spot l.m i l.col))) i p) l.p ≡ pivot_in l.col l.m)

abbrev pub decreases-loop-i : goal.decreases-loop-i
decreases-loop-i l = 6 - l.i
