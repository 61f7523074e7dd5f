-- `polytope::feasible` meets its contract. Assumes nothing.
use mathlib.Core.Path.{◌≡◌}
use mathlib.Core.Bool.{true, ◌&&◌}
use Prim.Native.Nat.{◌-◌}
use lib.Ieee.{le}
use Rattle.laws.specs.Loop.{for}
use Rattle.laws.specs.Floats.{◌-f◌, at}
use Rattle.polytope.specs.Polytope.{rows_of, dot_of, feasible_of}
use Rattle.polytope.proofs.feasible.Given as goal

abbrev pub invariant-loop-c : goal.invariant-loop-c
invariant-loop-c l = for l.c 7 (λ c b. b && le (dot_of rows_of l.x c -f at l.h c) l.slack) true ≡ feasible_of rows_of l.h 7 l.slack l.x

abbrev pub decreases-loop-c : goal.decreases-loop-c
decreases-loop-c l = 7 - l.c
