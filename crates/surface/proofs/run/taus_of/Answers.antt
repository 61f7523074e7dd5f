use Rattle.surface.specs.Runs.{taus_of}
use Rattle.laws.proofs.Loops.{again, ended}
use mathlib.Core.Path.{refl}
use Rattle.surface.proofs.run.taus_of.Goals as goal

pub loop-i-init : goal.loop-i-init
unfolding taus_of
loop-i-init c = refl

pub loop-i-preserved : goal.loop-i-preserved
loop-i-preserved c = again _ _ _ c.loop-i-test.true refl c.loop-i.invariant

pub returns : goal.returns
returns c = ended _ _ _ c.loop-i-test.false c.loop-i.invariant
