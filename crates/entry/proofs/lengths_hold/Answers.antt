-- `entry::lengths_hold` meets its contract. Assumes nothing.
use mathlib.Core.Path.{refl}
use Rattle.entry.specs.Entry.{lengths_hold}
use Rattle.entry.proofs.lengths_hold.Goals as goal

pub returns : goal.returns
unfolding lengths_hold
returns c = refl
