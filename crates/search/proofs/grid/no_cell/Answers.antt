-- `search::grid::no_cell` meets its contract. Assumes nothing.
use Rattle.cell.proofs.Defaults.{none_found}
use Rattle.search.proofs.grid.no_cell.Goals as goal

pub returns : goal.returns
returns c = none_found _ c.default.ensures
