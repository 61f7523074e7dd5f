-- `roots::wide::square` meets its contract. Assumes nothing.
use Rattle.roots.proofs.Limbs.{square_is}
use Rattle.roots.proofs.wide.square.Goals as goal

pub returns : goal.returns
returns c = square_is c.args.q
