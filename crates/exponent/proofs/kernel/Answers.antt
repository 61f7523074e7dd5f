-- `kernel` meets its contract. Assumes nothing.
use Rattle.exponent.specs.Exp.{kernel_of, series_of, upper_of}
use Rattle.exponent.proofs.kernel.Goals as goal

pub returns : goal.returns
unfolding kernel_of series_of upper_of
returns c = rw (c.corrected.ensures, c.lack.ensures, c.horner-h.ensures, c.horner-q.ensures)
