use Rattle.surface.specs.Runs.{first_bad}
use Rattle.laws.proofs.Loops.{again, ended}
use mathlib.Core.Path.{refl, ◌∙◌}
use Rattle.refusals.proofs.Numbers.{handed_on_too}
use Rattle.surface.proofs.Handed.{bad_stays}
use Rattle.surface.proofs.run.check_each.Goals as goal

pub loop-s-init : goal.loop-s-init
unfolding first_bad
loop-s-init c = refl

pub returns-in_err-check : goal.returns-in_err-check
returns-in_err-check c = handed_on_too _ _ c.from_residual.ensures.1 ∙ bad_stays _ _ _ _ c.loop-s-test.true c.in_err-check.ensures c.loop-s.invariant

pub loop-s-preserved : goal.loop-s-preserved
loop-s-preserved c = again _ _ _ c.loop-s-test.true c.in_ok-check.ensures c.loop-s.invariant

pub returns : goal.returns
returns c = ended _ _ _ c.loop-s-test.false c.loop-s.invariant
