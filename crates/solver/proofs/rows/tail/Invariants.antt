-- `solver::rows::tail` meets its contract. Assumes nothing.
use mathlib.Core.Path.{◌≡◌}
use Prim.Native.Nat.{◌-◌}
use Rattle.solver.specs.Rows.{spot, tail_in}
use Rattle.laws.specs.Floats.{◌+f◌, ◌*f◌, at}
use Rattle.laws.specs.Loop.{for}
use Rattle.solver.proofs.rows.tail.Given as goal

abbrev pub invariant-loop-j : goal.invariant-loop-j
invariant-loop-j l = for l.j 6 (λ j a. a +f spot l.m l.row j *f at l.x j) l.tail ≡ tail_in l.m l.x l.row

abbrev pub decreases-loop-j : goal.decreases-loop-j
decreases-loop-j l = 6 - l.j
