-- `roots::lengths::numbered` meets its contract. Assumes nothing.
use Rattle.laws.proofs.Floats.{self_same}
use Rattle.roots.proofs.lengths.numbered.Goals as goal

pub returns : goal.returns
returns c = self_same _ c.if-x.false
