-- `slice::lee` meets its contract. Assumes nothing.
use Rattle.slice.specs.Slice.{lee_of}
use Rattle.slice.proofs.lee.Goals as goal

pub returns : goal.returns
unfolding lee_of
returns c = cc
