-- `search::grid::row` meets its contract. Assumes nothing.
use mathlib.Core.Path.{◌≡◌}
use Rattle.laws.specs.Floats.{at}
use Rattle.cell.specs.Cell.{inner_of}
use Rattle.laws.specs.Loop.{for}
use Rattle.search.specs.Search.{consider}
use Rattle.search.proofs.grid.row.Given as goal

abbrev pub invariant-loop-j : goal.invariant-loop-j
invariant-loop-j l = (l.best ≡ for 0 l.j (λ j b. consider b (inner_of l.o.ks.now l.o.ws.now l.o.weights.now l.o.l l.m (at l.sigmas j)) l.i j) l.initial.best)
