-- `moves::place_of` meets its contract. Assumes nothing.
use Rattle.moves.specs.Moves.{place_of}
use Rattle.moves.proofs.place_of.Goals as goal

pub returns : goal.returns
unfolding place_of
returns c = cc
