-- `calibrate::ending::Fitting::best_end` meets its contract. Assumes nothing.
use Rattle.calibrate.specs.Fit.{best_end}
use Rattle.calibrate.proofs.ending.Fitting.best_end.Goals as goal

pub returns : goal.returns
unfolding best_end
returns c = cc
