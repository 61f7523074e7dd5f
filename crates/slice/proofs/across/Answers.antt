-- `slice::across` meets its contract. Assumes nothing.
use Rattle.slice.specs.Slice.{across_of}
use Rattle.slice.proofs.across.Goals as goal

pub returns : goal.returns
unfolding across_of
returns c = cc
