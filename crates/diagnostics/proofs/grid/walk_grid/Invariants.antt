-- `diagnostics::grid::walk_grid` meets its contract. Assumes nothing.
use Rattle.diagnostics.specs.Walk.{seen_on}
use Rattle.diagnostics.proofs.Standing.{WalkInv}
use Rattle.diagnostics.proofs.grid.walk_grid.Given as goal

abbrev pub invariant-loop-k : goal.invariant-loop-k
invariant-loop-k l = WalkInv (seen_on l.run.recs l.nodes.taus l.nodes.tols l.nodes.count l.policy) l.tol l.ks l.axis l.initial.room l.initial.s l.room l.s l.k-index
