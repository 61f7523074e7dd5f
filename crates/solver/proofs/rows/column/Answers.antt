-- `solver::rows::column` meets its contract. Assumes nothing.
use mathlib.Core.Path.{ap, ◌∙◌}
use Prim.Native.Nat.{ℕ, ◌+◌, ◌-◌}
use Rattle.solver.specs.Rows.{reduced, from_in}
use mathlib.Core.Bool.{false}
use Rattle.solver.proofs.Steps.{left_out, stopped, cleared}
use Rattle.solver.proofs.rows.column.Goals as goal

pub returns-then-n-clause-rows : goal.returns-then-n-clause-rows
returns-then-n-clause-rows g c = let a = c.args in left_out g.row.COL a.n a.limit a.m.now a.left c.requires.0 c.if-n.true

pub returns-then-small-clause-rows : goal.returns-then-small-clause-rows
returns-then-small-clause-rows g c =
    let a = c.args in
    ap (λ (k : ℕ). from_in (g.row.COL + 1) a.n a.limit (reduced false a.m.now (a.left - k))) c.most.ensures
    ∙ stopped g.row.COL a.n a.limit a.m.now c.requires.0 c.if-n.false c.pivot-p.ensures.0 c.unsigned.ensures a.left c.if-small.true

pub returns-clause-rows : goal.returns-clause-rows
returns-clause-rows g c =
    let a = c.args in
    (cleared g.row.COL a.n a.limit a.m.now c.requires.0 c.if-n.false c.pivot-p.ensures.0 c.unsigned.ensures c.if-small.false c.swap.ensures c.requires.2 c.clear.ensures).0

pub returns-clause-fits : goal.returns-clause-fits
returns-clause-fits g c =
    let a = c.args in
    (cleared g.row.COL a.n a.limit a.m.now c.requires.0 c.if-n.false c.pivot-p.ensures.0 c.unsigned.ensures c.if-small.false c.swap.ensures c.requires.2 c.clear.ensures).1
