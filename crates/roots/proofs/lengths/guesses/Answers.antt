use mathlib.Core.Path.{◌∙◌}
use Rattle.laws.proofs.Rooms.{filled_over}
use Rattle.roots.proofs.lengths.guesses.Goals as goal

pub loop-i-preserved : goal.loop-i-preserved
loop-i-preserved c = λ v. filled_over v _ _ _ _ c.loop-i-test.true ∙ c.loop-i.invariant v
