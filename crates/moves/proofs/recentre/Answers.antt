-- `moves::recentre` meets its contract. Assumes nothing.
use Rattle.moves.specs.Moves.{recentred}
use Rattle.moves.proofs.recentre.Goals as goal

pub returns : goal.returns
unfolding recentred
returns c = cc
