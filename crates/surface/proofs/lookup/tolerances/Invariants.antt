-- `surface::lookup::tolerances` meets its contract. Assumes nothing.
use mathlib.Core.Path.{◌≡◌}
use lib.ListN.{length, replicate}
use Rattle.laws.specs.Floats.{+0}
use Rattle.laws.specs.Loop.{for}
use Rattle.surface.specs.Lookup.{tolerance_turn}
use Rattle.surface.proofs.lookup.tolerances.Given as goal

abbrev pub invariant-loop-i : goal.invariant-loop-i
invariant-loop-i l = for l.i (length l.taus) (tolerance_turn l.taus (length l.taus)) l.tols ≡ for 0 (length l.taus) (tolerance_turn l.taus (length l.taus)) (replicate 32 +0)
