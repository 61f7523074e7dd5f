-- `calibrate::params::slice_of` meets its contract. Assumes nothing.
use Rattle.calibrate.specs.End.{slice_of}
use Rattle.calibrate.proofs.params.slice_of.Goals as goal

pub returns : goal.returns
unfolding slice_of
returns c = cc
