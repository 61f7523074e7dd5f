-- `cell::Common::right` meets its contract. Assumes nothing.
use native.Mathlib.Omega.{arith}
use Rattle.cell.proofs.Systems.{rhs_none, rhs_one, rhs_two, rhs_three}
use Rattle.cell.proofs.common.Common.right.Goals as goal

pub returns-then-f-eq0 : goal.returns-then-f-eq0
returns-then-f-eq0 c = rhs_none _ _ _ c.if-f-eq0.true

pub returns-then-f-eq1 : goal.returns-then-f-eq1
returns-then-f-eq1 c = rhs_one _ _ _ c.if-f-eq1.true

pub returns-then-f-eq2 : goal.returns-then-f-eq2
returns-then-f-eq2 c = rhs_two _ _ _ c.if-f-eq2.true

pub returns : goal.returns
returns c = rhs_three _ _ _ (omega arith)
