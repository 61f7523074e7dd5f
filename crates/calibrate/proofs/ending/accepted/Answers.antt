-- `calibrate::ending::accepted` meets its contract. Assumes nothing.
use Rattle.calibrate.specs.End.{accepted_of}
use Rattle.calibrate.proofs.ending.accepted.Goals as goal

pub returns : goal.returns
unfolding accepted_of
returns c = cc
