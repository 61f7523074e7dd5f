-- `diagnostics::grid::failed_at` meets its contract. Assumes nothing.
use mathlib.Core.Path.{refl}
use Rattle.diagnostics.specs.Walk.{failed_of}
use Rattle.diagnostics.proofs.grid.failed_at.Goals as goal

pub returns : goal.returns
unfolding failed_of
returns c = refl
