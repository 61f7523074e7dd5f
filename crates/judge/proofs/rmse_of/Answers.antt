-- `judge::rmse_of` meets its contract. Assumes nothing.
use Rattle.judge.specs.Judge.{rmse_of}
use Rattle.judge.proofs.rmse_of.Goals as goal

pub returns : goal.returns
unfolding rmse_of
returns c = cc
