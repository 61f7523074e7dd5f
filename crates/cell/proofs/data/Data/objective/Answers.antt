use mathlib.Core.Path.{refl}
use Rattle.laws.proofs.Loops.{again, ended}
use Rattle.cell.specs.Least.{objective_of}
use Rattle.cell.proofs.data.Data.objective.Goals as goal

pub loop-i-init : goal.loop-i-init
unfolding objective_of
loop-i-init c = refl

pub loop-i-preserved : goal.loop-i-preserved
loop-i-preserved c = again _ _ _ c.loop-i-test.true (refl) c.loop-i.invariant

pub returns : goal.returns
returns c = ended _ _ _ c.loop-i-test.false c.loop-i.invariant
