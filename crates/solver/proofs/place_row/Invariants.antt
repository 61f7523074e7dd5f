-- `solver::place_row` meets its contract. Assumes nothing.
use mathlib.Core.Path.{◌≡◌}
use Prim.Native.Nat.{◌+◌, ◌-◌, ◌*◌}
use lib.ListN.{set}
use Rattle.solver.specs.Rows.{placed_row}
use Rattle.laws.specs.Floats.{at}
use Rattle.laws.specs.Loop.{for}
use Rattle.solver.proofs.place_row.Given as goal

abbrev pub invariant-loop-j : goal.invariant-loop-j
invariant-loop-j l = for l.j l.n (λ j t. set t ((6 - l.n + l.i) * 8 + (6 - l.n + j)) (at l.m (l.i * 6 + j))) l.t ≡ placed_row l.n l.m l.i l.initial.t

abbrev pub decreases-loop-j : goal.decreases-loop-j
decreases-loop-j l = l.n - l.j
