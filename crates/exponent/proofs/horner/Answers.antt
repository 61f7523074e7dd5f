use Rattle.std.proofs.Common.{refl}
use Rattle.laws.proofs.Loops.{again, ended}
use Rattle.exponent.specs.Exp.{horner_of}
use Rattle.exponent.proofs.horner.Goals as goal

pub loop-j-init : goal.loop-j-init
unfolding horner_of
loop-j-init c = refl

pub loop-j-preserved : goal.loop-j-preserved
loop-j-preserved c = again _ _ _ c.loop-j-test.true refl c.loop-j.invariant

pub returns : goal.returns
returns c = ended _ _ _ c.loop-j-test.false c.loop-j.invariant
