-- `total` meets its contract. Assumes nothing.
use Rattle.std.proofs.Common.{refl}
use Rattle.exponent.specs.Ln.{ln_from}
use Rattle.exponent.proofs.total.Goals as goal

pub returns : goal.returns
unfolding ln_from
returns c = refl
