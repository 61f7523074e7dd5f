-- `search::grid::pass` meets its contract. Assumes nothing.
use mathlib.Core.Path.{◌≡◌}
use Prim.Native.Nat.{◌-◌, ◌≤◌}
use Rattle.laws.specs.Loop.{for}
use Rattle.search.specs.Search.{no_best, grid_row}
use Rattle.search.specs.Run.{fit_cell}
use Rattle.search.proofs.grid.pass.Given as goal

abbrev pub invariant-loop-i : goal.invariant-loop-i
invariant-loop-i l = (l.i ≤ l.n) × (l.best ≡ for 0 l.i (λ i b. grid_row (fit_cell l.o.ks.now l.o.ws.now l.o.weights.now l.o.l) l.w l.n i b) no_best)

abbrev pub decreases-loop-i : goal.decreases-loop-i
decreases-loop-i l = l.n - l.i
