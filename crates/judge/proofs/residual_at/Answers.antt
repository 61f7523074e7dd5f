-- `judge::residual_at` meets its contract. Assumes nothing.
use Rattle.judge.specs.Judge.{residual_at}
use Rattle.judge.proofs.residual_at.Goals as goal

pub returns : goal.returns
unfolding residual_at
returns c = cc
