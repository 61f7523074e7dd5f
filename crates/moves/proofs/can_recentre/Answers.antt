-- `moves::can_recentre` meets its contract. Assumes nothing.
use Rattle.moves.specs.Moves.{can_recentre}
use Rattle.moves.proofs.can_recentre.Goals as goal

pub returns : goal.returns
unfolding can_recentre
returns c = cc
