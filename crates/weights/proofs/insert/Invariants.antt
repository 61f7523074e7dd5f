-- `weights::insert` meets its contract. Assumes nothing.
use Rattle.std.proofs.Common.{take}
use Rattle.weights.proofs.Places.{Passing}
use Rattle.weights.proofs.insert.Given as goal

abbrev pub invariant-loop-y : goal.invariant-loop-y
invariant-loop-y l = Passing l.y-index l.x l.carry (take l.n l.fn.a) l.y-items
