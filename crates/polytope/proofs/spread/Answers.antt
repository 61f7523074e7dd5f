use mathlib.Core.Path.{refl, ap, ◌∙◌}
use Rattle.laws.specs.Floats.{max_of}
use Rattle.laws.proofs.Loops.{again, ended}
use Rattle.polytope.specs.Polytope.{spread_of}
use Rattle.polytope.proofs.spread.Goals as goal

pub loop-bound-init : goal.loop-bound-init
unfolding spread_of
loop-bound-init c = refl

pub loop-bound-preserved : goal.loop-bound-preserved
loop-bound-preserved c = again _ _ _ c.loop-bound-test.true (c.max-acc.ensures ∙ ap (max_of _) c.magnitude.ensures) c.loop-bound.invariant

pub returns : goal.returns
returns c = ended _ _ _ c.loop-bound-test.false c.loop-bound.invariant
