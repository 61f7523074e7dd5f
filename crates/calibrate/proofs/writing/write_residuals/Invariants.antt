-- `calibrate::writing::write_residuals` meets its contract. Assumes nothing.
use lib.ListN.{length}
use Rattle.calibrate.proofs.Quads.{Rows}
use Rattle.calibrate.proofs.writing.write_residuals.Given as goal

abbrev pub invariant-loop-i : goal.invariant-loop-i
invariant-loop-i l = Rows l.s l.k l.w (length l.yielded) l.initial.out l.out
