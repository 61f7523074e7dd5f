-- `diagnostics::grid::fresh` meets its contract. Assumes nothing.
use mathlib.Core.Path.{refl}
use Rattle.diagnostics.specs.Walk.{fresh_of}
use Rattle.diagnostics.proofs.grid.fresh.Goals as goal

pub returns : goal.returns
unfolding fresh_of
returns c = refl
