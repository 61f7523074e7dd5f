-- `fourth` meets its contract. Assumes nothing.
use Rattle.std.proofs.Common.{refl}
use Rattle.exponent.specs.Exp.{fourth_of}
use Rattle.exponent.proofs.fourth.Goals as goal

pub returns : goal.returns
unfolding fourth_of
returns c = refl
