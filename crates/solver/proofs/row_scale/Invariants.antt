-- `solver::row_scale` meets its contract. Assumes nothing.
use mathlib.Core.Path.{◌≡◌}
use Rattle.solver.specs.Solve.{entry, row_scale_of}
use Rattle.laws.specs.Floats.{+0, max_of, abs_of}
use Rattle.laws.specs.Loop.{for}
use Rattle.solver.specs.Rows.{NotBelowZero}
use Rattle.solver.proofs.row_scale.Given as goal

abbrev pub invariant-loop-x : goal.invariant-loop-x
invariant-loop-x l = (for l.x-index l.n (λ j b. max_of b (abs_of (entry l.m l.i j))) l.acc ≡ row_scale_of l.n l.m l.i +0) × NotBelowZero l.acc
