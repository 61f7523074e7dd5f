-- `records::sizes_hold` meets its contract. Assumes nothing.
use mathlib.Core.Path.{refl}
use Rattle.records.specs.Settings.{sizes_hold}
use Rattle.records.proofs.sizes_hold.Goals as goal

pub returns : goal.returns
unfolding sizes_hold
returns c = refl
