-- `diagnostics::grid::row` meets its contract. Assumes nothing.
use Rattle.diagnostics.specs.Walk.{seen_on}
use Rattle.diagnostics.proofs.Standing.{RowInv}
use Rattle.diagnostics.proofs.grid.row.Given as goal

abbrev pub invariant-loop-tau : goal.invariant-loop-tau
invariant-loop-tau l = RowInv (seen_on l.run.recs l.nodes.taus l.nodes.tols l.nodes.count l.policy) l.tol l.axis l.k l.initial.room l.initial.s l.room l.s l.tau-index
