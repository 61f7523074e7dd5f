-- `surface::run::taus_of` meets its contract. Assumes nothing.
use mathlib.Core.Path.{◌≡◌}
use Rattle.laws.specs.Loop.{for}
use Rattle.surface.specs.Runs.{taus_of, tau_turn}
use Rattle.surface.proofs.run.taus_of.Given as goal

abbrev pub invariant-loop-i : goal.invariant-loop-i
invariant-loop-i l = for l.i 32 (tau_turn l.recs) l.taus ≡ taus_of l.recs
