-- `polytope::spread` meets its contract. Assumes nothing.
use mathlib.Core.Path.{◌≡◌}
use Rattle.laws.specs.Loop.{for}
use Rattle.laws.specs.Floats.{at, abs_of, max_of}
use Rattle.polytope.specs.Polytope.{spread_of}
use Rattle.polytope.proofs.spread.Given as goal

abbrev pub invariant-loop-bound : goal.invariant-loop-bound
invariant-loop-bound l = for l.bound-index 7 (λ c a. max_of a (abs_of (at l.h c))) l.acc ≡ spread_of l.h
