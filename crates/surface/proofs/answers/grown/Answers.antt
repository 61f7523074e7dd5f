-- `surface::answers::grown` meets its contract. Assumes nothing.
use Rattle.surface.specs.Surface.{short_scaled}
use Rattle.surface.proofs.answers.grown.Goals as goal

pub returns : goal.returns
unfolding short_scaled
returns c = c.new.ensures
