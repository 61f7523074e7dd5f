-- `surface::run::check_each` meets its contract. Assumes nothing.
use mathlib.Core.Path.{◌≡◌}
use lib.ListN.{length}
use Rattle.laws.specs.Loop.{for}
use Rattle.surface.specs.Runs.{first_bad, bad_turn}
use Rattle.surface.proofs.run.check_each.Given as goal

abbrev pub invariant-loop-s : goal.invariant-loop-s
invariant-loop-s l = for l.s-index (length l.recs) (bad_turn l.recs) 0 ≡ first_bad l.recs (length l.recs)
