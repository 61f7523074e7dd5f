-- `calibrate::plan_of` meets its contract. Assumes nothing.
use Rattle.calibrate.specs.Fit.{plan_of}
use Rattle.calibrate.proofs.plan_of.Goals as goal

pub returns : goal.returns
unfolding plan_of
returns c = cc
