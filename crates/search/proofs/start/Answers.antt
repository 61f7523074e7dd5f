-- `search::start` meets its contract. Assumes nothing.
use Rattle.std.proofs.Common.{rules}
use Rattle.search.specs.Search.{start_of}
use Rattle.search.proofs.start.Goals as goal

pub returns : goal.returns
unfolding start_of
returns c = rw c.no_cell.ensures (search rules)
