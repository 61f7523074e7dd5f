-- What is written to rows reads back as it was: a range, a slice, settings, a check, a report. So `port_raw_report_clean` says of the rows that `port_raw_diagnose` wrote what it says of the report. Assumes nothing.
use mathlib.Core.Path.{◌≡◌, refl, ap}
use mathlib.Core.Bool.{Bool, true, false, not}
use lib.Dec.{eqb}
use Rattle.diagnostics.specs.declared.report.SurfaceDiagnostics.{SurfaceDiagnostics}
use Rattle.diagnostics.specs.declared.tally.Check.{Check}
use Rattle.diagnostics.specs.Diagnostics.{report_clean}
use Rattle.rows.specs.Answers.{check_counts, check_worst, diagnosed_counts, diagnosed_worst, check_at, report_at}
use Rattle.rows.specs.Flag.{flag}
use Rattle.slice.specs.declared.KRange.{KRange}
use Rattle.slice.specs.declared.SviSlice.{SviSlice}
use Rattle.records.specs.declared.FitConfig.{FitConfig}
use Rattle.rows.specs.Rows.{read_range, read_slice, read_config, range_row, slice_row, sizes_row, reals_row}

pub range_back : (r : KRange) → read_range (range_row r) ≡ r
unfolding read_range
range_back r = refl

pub slice_back : (s : SviSlice) → read_slice (slice_row s) ≡ s
unfolding read_slice
slice_back s = refl

pub config_back : (c : FitConfig) → read_config (sizes_row c) (reals_row c) ≡ c
unfolding read_config
config_back c = refl

found_back : (b : Bool) → not (eqb (flag b) 0) ≡ b
found_back true = refl
found_back false = refl

pub check_back : (c : Check) → check_at 0 (check_counts c) (check_worst c) ≡ c
check_back c = ap (λ (found : Bool). record { points = c.points; violations = c.violations; worst = record { found = found; at = c.worst.at } }) (found_back c.worst.found)

pub report_back : (d : SurfaceDiagnostics) → report_at (diagnosed_counts d) (diagnosed_worst d) ≡ d
report_back d = λ i. record { butterfly = check_back d.butterfly i; calendar_slope = check_back d.calendar_slope i; calendar_gap = check_back d.calendar_gap i; evaluation_failures = d.evaluation_failures }

pub clean_back : (d : SurfaceDiagnostics) → flag (report_clean (report_at (diagnosed_counts d) (diagnosed_worst d))) ≡ flag (report_clean d)
clean_back d = ap (λ (e : SurfaceDiagnostics). flag (report_clean e)) (report_back d)
