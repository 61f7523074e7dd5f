-- `moves::can_shrink` meets its contract. Assumes nothing.
use Rattle.moves.specs.Moves.{can_shrink}
use Rattle.moves.proofs.can_shrink.Goals as goal

pub returns : goal.returns
unfolding can_shrink
returns c = cc
