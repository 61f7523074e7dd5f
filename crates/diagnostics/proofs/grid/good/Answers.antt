-- `diagnostics::grid::good` meets its contract. Assumes nothing.
use Rattle.diagnostics.specs.Walk.{good_of}
use Rattle.diagnostics.proofs.grid.good.Goals as goal

pub returns : goal.returns
unfolding good_of
returns c = cc
