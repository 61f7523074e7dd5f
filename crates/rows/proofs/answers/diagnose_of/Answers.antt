-- `rows::answers::diagnose_of` meets its contract. Assumes nothing.
use mathlib.Core.Path.{refl}
use Rattle.rows.specs.Answers.{diagnosed_for, room_for}
use Rattle.rows.proofs.answers.diagnose_of.Goals as goal

pub returns : goal.returns
unfolding diagnosed_for room_for
returns c = (
  rw (← c.policy_of.ensures, ← c.diagnose_run-report.ensures.0, ← c.no_diagnostics.ensures, ← c.told-a.ensures) refl,
  rw (room_for, ← c.policy_of.ensures) c.diagnose_run-report.ensures.1,
  rw (← c.policy_of.ensures, ← c.diagnose_run-report.ensures.0, ← c.no_diagnostics.ensures, ← c.told-a.ensures) c.write_report.ensures.0,
  rw (← c.policy_of.ensures, ← c.diagnose_run-report.ensures.0, ← c.no_diagnostics.ensures, ← c.told-a.ensures) c.write_report.ensures.1,
)
