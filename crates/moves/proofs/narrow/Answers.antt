-- `moves::narrow` meets its contract. Assumes nothing.
use Rattle.moves.specs.Moves.{narrowed}
use Rattle.moves.proofs.narrow.Goals as goal

pub returns : goal.returns
unfolding narrowed
returns c = cc
