-- `moves::stop` meets its contract. Assumes nothing.
use Rattle.moves.specs.Moves.{stopped}
use Rattle.moves.proofs.stop.Goals as goal

pub returns : goal.returns
unfolding stopped
returns c = cc
