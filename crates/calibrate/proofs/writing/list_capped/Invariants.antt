-- `calibrate::writing::list_capped` meets its contract. Assumes nothing.
use Rattle.calibrate.proofs.Listing.{Listed}
use Rattle.calibrate.proofs.writing.list_capped.Given as goal

abbrev pub invariant-loop-i : goal.invariant-loop-i
invariant-loop-i l = Listed l.cap l.ws l.i l.n l.initial.out l.out
