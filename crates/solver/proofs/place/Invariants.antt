-- `solver::place` meets its contract. Assumes nothing.
use mathlib.Core.Path.{◌≡◌}
use Prim.Native.Nat.{◌+◌, ◌-◌, ◌*◌}
use lib.ListN.{set}
use Rattle.solver.specs.Rows.{placed_row, placed_of}
use Rattle.laws.specs.Floats.{at}
use Rattle.laws.specs.Loop.{for}
use Rattle.solver.proofs.place.Given as goal

abbrev pub invariant-loop-i : goal.invariant-loop-i
invariant-loop-i l = for l.i l.n (λ i t. set (placed_row l.n l.m i t) ((6 - l.n + i) * 8 + 6) (at l.rhs i)) l.t ≡ placed_of l.n l.m l.rhs

abbrev pub decreases-loop-i : goal.decreases-loop-i
decreases-loop-i l = l.n - l.i
