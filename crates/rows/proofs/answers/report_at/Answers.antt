-- `rows::answers::report_at` meets its contract. Assumes nothing.
use mathlib.Core.Path.{◌≡◌}
use mathlib.Core.List.{List}
use Prim.Native.Nat.{ℕ}
use lib.Ieee.{Float}
use lib.ListN.{get_or}
use Rattle.diagnostics.specs.declared.tally.Check.{Check}
use Rattle.diagnostics.specs.declared.report.SurfaceDiagnostics.{SurfaceDiagnostics}
use Rattle.rows.specs.Answers.{check_at, report_at}
use Rattle.rows.proofs.answers.report_at.Goals as goal

abbrev report : Check → Check → Check → ℕ → SurfaceDiagnostics
report b s g n = record { butterfly = b; calendar_slope = s; calendar_gap = g; evaluation_failures = n }

made : {b s g : Check} (counts : List ℕ) (worst : List Float) → b ≡ check_at 0 counts worst → s ≡ check_at 3 counts worst → g ≡ check_at 6 counts worst → report b s g (get_or counts 9 0) ≡ report_at counts worst
made counts worst e f h = λ i. report (e i) (f i) (h i) (get_or counts 9 0)

pub returns : goal.returns
returns c = made c.args.counts.now c.args.worst.now c.check_of.ensures c.check_of-2.ensures c.check_of-3.ensures
