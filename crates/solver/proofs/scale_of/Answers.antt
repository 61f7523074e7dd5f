use mathlib.Core.Path.{refl, sym, ap, subst, ◌∙◌}
use mathlib.Core.Bool.{cond}
use lib.Ieee.{Float, lt}
use Rattle.solver.specs.Solve.{scale_of}
use Rattle.laws.proofs.Loops.{again, ended}
use Rattle.solver.specs.Rows.{NotBelowZero}
use Rattle.solver.proofs.Steps.{zero_not_below, both_not_below, row_from}
use Rattle.solver.proofs.scale_of.Goals as goal

pub loop-i-init : goal.loop-i-init
unfolding scale_of
loop-i-init c = (refl, zero_not_below)

pub loop-i-preserved : goal.loop-i-preserved
loop-i-preserved c = let r = c.row_scale in
    let b = c.loop-i in
    let step = c.larger-acc.ensures ∙ ap (λ (u : Float). cond (lt b.acc u) u b.acc) r.ensures.0 ∙ row_from _ _ _ _ b.invariant.1 in
    (again _ _ _ c.loop-i-test.true step b.invariant.0, subst NotBelowZero (sym c.larger-acc.ensures) (both_not_below _ _ b.invariant.1 r.ensures.1))

pub returns : goal.returns
returns c = ended _ _ _ c.loop-i-test.false c.loop-i.invariant.0
