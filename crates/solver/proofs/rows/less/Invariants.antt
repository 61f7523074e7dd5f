-- `solver::rows::less` meets its contract. Assumes nothing.
use mathlib.Core.Path.{◌≡◌}
use Prim.Native.Nat.{◌+◌, ◌-◌, ◌*◌}
use lib.ListN.{set}
use Rattle.solver.specs.Rows.{spot, less_in}
use Rattle.laws.specs.Floats.{◌-f◌, ◌*f◌}
use Rattle.laws.specs.Loop.{for}
use Rattle.solver.proofs.rows.less.Given as goal

abbrev pub invariant-loop-j : goal.invariant-loop-j
invariant-loop-j l = for l.j 7 (λ j t. set t (l.row * 8 + j) (spot t l.row j -f l.factor *f spot t l.col j)) l.m ≡ less_in l.col l.row l.factor l.initial.m

abbrev pub decreases-loop-j : goal.decreases-loop-j
decreases-loop-j l = 7 - l.j
