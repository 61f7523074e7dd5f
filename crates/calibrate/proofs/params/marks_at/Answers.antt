-- `calibrate::params::marks_at` meets its contract. Assumes nothing.
use Rattle.calibrate.specs.End.{marks_at}
use Rattle.calibrate.proofs.params.marks_at.Goals as goal

pub returns : goal.returns
unfolding marks_at
returns c = cc
