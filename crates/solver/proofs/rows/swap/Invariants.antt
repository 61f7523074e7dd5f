-- `solver::rows::swap` meets its contract. Assumes nothing.
use mathlib.Core.Path.{◌≡◌}
use Prim.Native.Nat.{◌+◌, ◌-◌, ◌*◌}
use lib.ListN.{length}
use Rattle.solver.specs.Solve.{exchange}
use Rattle.solver.specs.Rows.{swap_in}
use Rattle.laws.specs.Loop.{for}
use Rattle.solver.proofs.rows.swap.Given as goal

abbrev pub invariant-loop-j : goal.invariant-loop-j
invariant-loop-j l = (length l.m ≡ 48) × (for l.j 7 (λ j t. exchange t (l.a * 8 + j) (l.b * 8 + j)) l.m ≡ swap_in l.a l.b l.initial.m)

abbrev pub decreases-loop-j : goal.decreases-loop-j
decreases-loop-j l = 7 - l.j
