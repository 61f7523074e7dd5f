-- `port::calibration::outcome_counts` meets its contract. Assumes nothing.
use Rattle.port.proofs.calibration.outcome_counts.Goals as goal

pub returns : goal.returns
returns c = rw c.fit_counts-n.ensures
