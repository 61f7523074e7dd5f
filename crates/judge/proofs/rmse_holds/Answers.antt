-- `judge::rmse_holds` meets its contract. Assumes nothing.
use Rattle.judge.specs.Judge.{rmse_holds}
use Rattle.judge.proofs.rmse_holds.Goals as goal

pub returns : goal.returns
unfolding rmse_holds
returns c = cc
