-- `surface::answers::mixed` meets its contract. Assumes nothing.
use Rattle.surface.specs.Surface.{mixed_of}
use Rattle.surface.proofs.answers.mixed.Goals as goal

pub returns : goal.returns
unfolding mixed_of
returns c = c.new.ensures
