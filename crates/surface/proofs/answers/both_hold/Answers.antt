-- `surface::answers::both_hold` meets its contract. Assumes nothing.
use Rattle.surface.specs.Surface.{both_hold}
use mathlib.Core.Path.{ap₂}
use mathlib.Core.Bool.{Bool, ◌&&◌}
use Rattle.surface.proofs.answers.both_hold.Goals as goal

pub returns : goal.returns
unfolding both_hold
returns c = ap₂ (λ (a b : Bool). a && b) c.contains.ensures c.contains-2.ensures
