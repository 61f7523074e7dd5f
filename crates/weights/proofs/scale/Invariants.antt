-- `weights::scale` meets its contract. Assumes nothing.
use Rattle.weights.specs.Weights.{scale_one}
use Rattle.weights.proofs.Places.{Scaling}
use Rattle.weights.proofs.scale.Given as goal

abbrev pub invariant-loop-i : goal.invariant-loop-i
invariant-loop-i l = Scaling (scale_one l.cap l.most) l.weights l.initial.room l.i l.room
