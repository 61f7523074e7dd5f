-- `judge::params_hold` meets its contract. Assumes nothing.
use Rattle.judge.specs.Judge.{params_hold}
use Rattle.judge.proofs.params_hold.Goals as goal

pub returns : goal.returns
unfolding params_hold
returns c = cc
