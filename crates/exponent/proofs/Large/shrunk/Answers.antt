-- `Large::shrunk` meets its contract. Assumes nothing.
use Rattle.exponent.specs.Exp.{shrunk_of}
use Rattle.exponent.proofs.Large.shrunk.Goals as goal

pub returns : goal.returns
unfolding shrunk_of
returns c = rw (c.pow2-2.ensures, c.pow2.ensures, c.kernel-e.ensures, c.reduced-r.ensures.turns, c.reduced-r.ensures.rest, c.reduced-r.ensures.low)
