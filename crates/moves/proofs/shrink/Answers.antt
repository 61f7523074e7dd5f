-- `moves::shrink` meets its contract. Assumes nothing.
use Rattle.moves.specs.Moves.{shrunk}
use Rattle.moves.proofs.shrink.Goals as goal

pub returns : goal.returns
unfolding shrunk
returns c = cc
