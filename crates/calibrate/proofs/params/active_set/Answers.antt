use mathlib.Core.Path.{refl, ap}
use Rattle.laws.specs.Floats.{at, ◌-f◌}
use Rattle.laws.proofs.Loops.{again, ended}
use mathlib.Core.Bool.{false, ◌||◌}
use lib.ListN.{get_or, set}
use lib.Ieee.{Float, le}
use Rattle.calibrate.specs.End.{active_of}
use Rattle.calibrate.proofs.params.active_set.Goals as goal

pub loop-i-init : goal.loop-i-init
unfolding active_of
loop-i-init c = refl

pub loop-i-preserved : goal.loop-i-preserved
loop-i-preserved c = let l = c.loop-i in
    again _ _ _ c.loop-i-test.true (ap (λ (d : Float). set l.t l.i (get_or l.t l.i false || le c.args.slack (d -f at c.args.h.now l.i))) c.dot.ensures) l.invariant

pub returns : goal.returns
returns c = ended _ _ _ c.loop-i-test.false c.loop-i.invariant
