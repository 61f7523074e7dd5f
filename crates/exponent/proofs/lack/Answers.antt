-- `lack` meets its contract. Assumes nothing.
use Rattle.exponent.specs.Exp.{lack_of}
use Rattle.exponent.proofs.lack.Goals as goal

pub returns : goal.returns
unfolding lack_of
returns c = rw c.fourth.ensures
