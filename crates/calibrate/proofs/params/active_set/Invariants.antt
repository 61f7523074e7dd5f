-- `calibrate::params::active_set` meets its contract. Assumes nothing.
use mathlib.Core.Path.{◌≡◌}
use Rattle.laws.specs.Loop.{for}
use Rattle.laws.specs.Floats.{at, ◌-f◌}
use mathlib.Core.Bool.{false, ◌||◌}
use lib.ListN.{get_or, set}
use lib.Ieee.{le}
use Rattle.polytope.specs.Polytope.{dot_of}
use Rattle.calibrate.specs.End.{active_of}
use Rattle.calibrate.proofs.params.active_set.Given as goal

abbrev pub invariant-loop-i : goal.invariant-loop-i
invariant-loop-i l = for l.i 7 (λ i t. set t i (get_or t i false || le l.slack (dot_of l.g l.x i -f at l.h i))) l.t ≡ active_of l.initial.t l.g l.h l.x l.slack
