-- `judge::matched` meets its contract. Assumes nothing.
use Rattle.judge.specs.Judge.{matched_of}
use Rattle.judge.proofs.matched.Goals as goal

pub returns : goal.returns
unfolding matched_of
returns c = cc
