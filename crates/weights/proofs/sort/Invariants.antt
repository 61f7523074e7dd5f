-- `weights::sort` meets its contract. Assumes nothing.
use lib.ListN.{length}
use Rattle.weights.proofs.Places.{Sorting}
use Rattle.weights.proofs.sort.Given as goal

abbrev pub invariant-loop-m : goal.invariant-loop-m
invariant-loop-m l = Sorting l.weights l.initial.room (length l.yielded) l.room
