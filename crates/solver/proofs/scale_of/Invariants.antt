-- `solver::scale_of` meets its contract. Assumes nothing.
use mathlib.Core.Path.{◌≡◌}
use Prim.Native.Nat.{◌-◌}
use Rattle.solver.specs.Solve.{row_scale_of, scale_of}
use Rattle.laws.specs.Loop.{for}
use Rattle.solver.specs.Rows.{NotBelowZero}
use Rattle.solver.proofs.scale_of.Given as goal

abbrev pub invariant-loop-i : goal.invariant-loop-i
invariant-loop-i l = (for l.i l.n (λ i a. row_scale_of l.n l.m i a) l.acc ≡ scale_of l.n l.m) × NotBelowZero l.acc

abbrev pub decreases-loop-i : goal.decreases-loop-i
decreases-loop-i l = l.n - l.i
