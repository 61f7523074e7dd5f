use mathlib.Core.Path.{refl}
use Rattle.laws.proofs.Loops.{again, ended}
use Rattle.laws.specs.Room.{filled_on}
use Rattle.cell.specs.Least.{y_of}
use Rattle.cell.proofs.least.fill_ys.Goals as goal

pub loop-i-init : goal.loop-i-init
unfolding filled_on
loop-i-init c = refl

pub loop-i-preserved : goal.loop-i-preserved
unfolding y_of
loop-i-preserved c = again _ _ _ c.loop-i-test.true (refl) c.loop-i.invariant

pub returns : goal.returns
returns c = ended _ _ _ c.loop-i-test.false c.loop-i.invariant
