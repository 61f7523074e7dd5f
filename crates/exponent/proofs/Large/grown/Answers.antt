-- `Large::grown` meets its contract. Assumes nothing.
use Rattle.exponent.specs.Exp.{grown_of}
use Rattle.exponent.proofs.Large.grown.Goals as goal

pub returns : goal.returns
unfolding grown_of
returns c = rw (c.pow2-2.ensures, c.pow2.ensures, c.kernel-e.ensures, c.reduced-r.ensures.turns, c.reduced-r.ensures.rest, c.reduced-r.ensures.low)
