-- `judge::added` meets its contract. Assumes nothing.
use Rattle.judge.specs.Judge.{added_to}
use Rattle.judge.proofs.added.Goals as goal

pub returns : goal.returns
unfolding added_to
returns c = cc
