-- `joined` meets its contract. Assumes nothing.
use Rattle.exponent.specs.Ln.{joined_of}
use Rattle.exponent.proofs.joined.Goals as goal

pub returns : goal.returns
unfolding joined_of
returns c = rw (c.total.ensures, c.fifth.ensures, c.tail-p.ensures)
