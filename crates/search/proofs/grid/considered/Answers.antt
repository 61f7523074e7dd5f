-- `search::grid::considered` meets its contract. Assumes nothing.
use mathlib.Core.Path.{sym, ◌∙◌}
use Rattle.search.specs.Search.{consider}
use Rattle.search.proofs.grid.considered.Goals as goal

pub returns-then-better_than : goal.returns-then-better_than
unfolding consider
returns-then-better_than c = rw (sym c.better_than.ensures ∙ c.if-better_than.true)

pub returns : goal.returns
unfolding consider
returns c = rw (sym c.better_than.ensures ∙ c.if-better_than.false)
