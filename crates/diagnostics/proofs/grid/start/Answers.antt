-- `diagnostics::grid::start` meets its contract. Assumes nothing.
use Rattle.diagnostics.specs.Walk.{walk_start}
use Rattle.diagnostics.proofs.grid.start.Goals as goal

pub returns : goal.returns
unfolding walk_start
returns c = cc
