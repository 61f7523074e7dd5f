-- `rows::answers::region_of` meets its contract. Assumes nothing.
use mathlib.Core.Path.{refl}
use Rattle.rows.specs.Answers.{region_for}
use Rattle.rows.proofs.answers.region_of.Goals as goal
use Rattle.rows.proofs.answers.region_of.Goals.{in-Calibrated, in-Extrapolated}

pub returns : goal.returns
unfolding region_for
returns c = rw (← c.policy_of.ensures, ← c.region_run-region.ensures, ← c.told-a.ensures) (refl, elim c.match-a.branch [ in-Calibrated w ↦ rw (w.in-Calibrated.is, w.yes-is) refl | in-Extrapolated w ↦ rw (w.in-Extrapolated.is, w.yes-is) refl ])
