-- `search::run` meets its contract. Assumes nothing.
use Rattle.std.proofs.Common.{sym, ◌∙◌}
use Rattle.search.specs.Run.{planned_search}
use Rattle.search.proofs.run.Goals as goal

pub searched-requires : goal.searched-requires
searched-requires c = sym c.sizes_hold.ensures ∙ c.if-sizes_hold.true

pub returns-then-sizes_hold : goal.returns-then-sizes_hold
unfolding planned_search
returns-then-sizes_hold c = rw (← c.sizes_hold.ensures, c.if-sizes_hold.true) c.searched.ensures

pub returns : goal.returns
unfolding planned_search
returns c = rw (← c.sizes_hold.ensures, c.if-sizes_hold.false) c.start.ensures
