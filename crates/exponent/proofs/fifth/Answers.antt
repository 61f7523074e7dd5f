-- `fifth` meets its contract. Assumes nothing.
use Rattle.std.proofs.Common.{refl}
use Rattle.exponent.specs.Ln.{fifth_of}
use Rattle.exponent.proofs.fifth.Goals as goal

pub returns : goal.returns
unfolding fifth_of
returns c = refl
