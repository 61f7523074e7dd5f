use mathlib.Core.Path.{refl}
use Rattle.weights.specs.Weights.{scale_one}
use Rattle.weights.proofs.Places.{scale_next, scale_end}
use native.Mathlib.Omega.{arith}
use borrow.Author.Rules.{rules}
use Rattle.weights.proofs.scale.Goals as goal

pub loop-i-init : goal.loop-i-init
loop-i-init c = (search rules, refl, refl)

pub loop-i-preserved : goal.loop-i-preserved
loop-i-preserved c = let l = c.loop-i in
    rw c.min.ensures
    (scale_next (scale_one c.args.cap c.args.most) c.args.weights.now c.args.room.now l.room l.i c.loop-i-test.true (omega arith) l.invariant)

pub shape_of-room : goal.shape_of-room
shape_of-room c = c.loop-i.invariant.1

pub returns : goal.returns
returns c = scale_end (scale_one c.args.cap c.args.most) c.args.weights.now c.args.room.now c.loop-i.room c.loop-i.i c.loop-i-test.false c.loop-i.invariant
