-- `calibrate::limits_of` meets its contract. Assumes nothing.
use Rattle.calibrate.specs.Fit.{limits_of}
use Rattle.calibrate.proofs.limits_of.Goals as goal

pub returns : goal.returns
unfolding limits_of
returns c = cc
