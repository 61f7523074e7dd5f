-- `moves::points::last_of` meets its contract. Assumes nothing.
use Rattle.moves.specs.Axis.{last_of}
use Rattle.moves.proofs.points.last_of.Goals as goal

pub returns : goal.returns
unfolding last_of
returns c = cc
