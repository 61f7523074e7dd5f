-- The answers about points and surfaces as they are told, the number of a refusal, or 0, and the value of each case, and as the rows of numbers that leave the library. A refusal carries zeros. Definitions only.
use Rattle.std.specs.Prelude.{Bool, true, false, not, cond, List, [], ◌∷◌, ◌++◌, ℕ, ◌+◌, eqb, Float, Result}
use Rattle.laws.specs.Floats.{+0, at}
use Rattle.point.specs.declared.TotalVariance.{TotalVariance}
use Rattle.surface.specs.declared.types.Run.{Run}
use Rattle.surface.specs.declared.types.ShortExpiryPolicy.{ShortExpiryPolicy}
use Rattle.surface.specs.declared.types.ShortExpiryPolicy.TheVariants.{Reject, ConstantVol}
use Rattle.surface.specs.declared.types.Bracket.{Bracket}
use Rattle.surface.specs.declared.types.Bracket.TheVariants.{Short, Segment}
use Rattle.surface.specs.declared.types.Region.{Region}
use Rattle.surface.specs.declared.types.Region.TheVariants.{Calibrated, Extrapolated}
use Rattle.surface.specs.Surface.{bracket_run, region_run, total_run, covers_run}
use Rattle.diagnostics.specs.declared.report.DiagnosticsConfig.{DiagnosticsConfig}
use Rattle.diagnostics.specs.declared.report.SurfaceDiagnostics.{SurfaceDiagnostics}
use Rattle.diagnostics.specs.declared.tally.Check.{Check}
use Rattle.diagnostics.specs.Tally.{point_at, no_check}
use Rattle.diagnostics.specs.Diagnostics.{diagnose_of}
use Rattle.rows.specs.declared.Answer.{Answer}
use Rattle.rows.specs.Flag.{flag}
use Rattle.rows.specs.Told.{told_as}
use Rattle.rows.specs.Rows.{count_at}

-- ---- a policy as a number

-- 0 names Reject; every other number is ConstantVol
unfoldable pub policy_of : ℕ → ShortExpiryPolicy
policy_of n = cond (eqb n 0) Reject ConstantVol

-- the number that names a policy
abbrev pub policy_number : ShortExpiryPolicy → ℕ
policy_number Reject = 0
policy_number ConstantVol = 1

-- ---- what is told

-- the total variance, or the zeros of a refusal
abbrev pub total_answer : Result TotalVariance ℕ → Answer TotalVariance
total_answer = told_as record { w = +0; w_k = +0; w_kk = +0; w_tau = +0 }

-- the bracket; of a refusal positions 0 and 0, of weight 0
abbrev pub bracket_answer : Result Bracket ℕ → Answer Bracket
bracket_answer = told_as (Segment 0 0 +0)

-- the region; of a refusal none is calibrated
abbrev pub region_answer : Result Region ℕ → Answer Region
region_answer = told_as Extrapolated

-- yes or no; of a refusal no
abbrev pub covers_answer : Result Bool ℕ → Answer Bool
covers_answer = told_as false

abbrev pub no_diagnostics : SurfaceDiagnostics
no_diagnostics = record { butterfly = no_check; calendar_slope = no_check; calendar_gap = no_check; evaluation_failures = 0 }

-- the report, or an empty one
abbrev pub diagnosed_answer : Result SurfaceDiagnostics ℕ → Answer SurfaceDiagnostics
diagnosed_answer = told_as no_diagnostics

-- ---- of a run, with the policy as a number

unfoldable pub bracket_for : Run → ℕ → Float → Float → Answer Bracket
bracket_for run policy k tau = bracket_answer (bracket_run run (policy_of policy) k tau)

unfoldable pub region_for : Run → ℕ → Float → Float → Answer Region
region_for run policy k tau = region_answer (region_run run (policy_of policy) k tau)

unfoldable pub total_for : Run → ℕ → Float → Float → Answer TotalVariance
total_for run policy k tau = total_answer (total_run run (policy_of policy) k tau)

unfoldable pub covers_for : Run → List Float → List Float → Answer Bool
covers_for run ks taus = covers_answer (covers_run run ks taus)

-- the settings of a grid: its two tolerances
abbrev pub grid_config : Float → Float → DiagnosticsConfig
grid_config butterfly calendar = record { butterfly_tolerance = butterfly; calendar_tolerance = calendar }

unfoldable pub diagnosed_for : Run → ℕ → List Float → List Float → Float → Float → List Float → Answer SurfaceDiagnostics
diagnosed_for run policy ks taus butterfly calendar room = diagnosed_answer (diagnose_of run (policy_of policy) ks taus (grid_config butterfly calendar) room).answer

-- what the room holds afterwards
unfoldable pub room_for : Run → ℕ → List Float → List Float → Float → Float → List Float → List Float
room_for run policy ks taus butterfly calendar room = (diagnose_of run (policy_of policy) ks taus (grid_config butterfly calendar) room).room

-- ---- as rows of numbers

-- w, w_k, w_kk, w_tau
abbrev pub total_row : TotalVariance → List Float
total_row v = v.w ∷ v.w_k ∷ v.w_kk ∷ v.w_tau ∷ []

-- below as 1 or 0, lo, hi
abbrev pub places_row : Bracket → List ℕ
places_row Short = 1 ∷ 0 ∷ 0 ∷ []
places_row (Segment lo hi x) = 0 ∷ lo ∷ hi ∷ []

-- the weight of hi
abbrev pub weight_in : Bracket → Float
weight_in Short = +0
weight_in (Segment lo hi x) = x

abbrev pub is_calibrated : Region → Bool
is_calibrated Calibrated = true
is_calibrated Extrapolated = false

-- points, violations, found as 1 or 0
abbrev pub check_counts : Check → List ℕ
check_counts c = c.points ∷ c.violations ∷ flag c.worst.found ∷ []

-- k, tau, value of the worst
abbrev pub check_worst : Check → List Float
check_worst c = c.worst.at.k ∷ c.worst.at.tau ∷ c.worst.at.value ∷ []

-- of the butterflies, of the slopes, of the gaps; then the failures
abbrev pub diagnosed_counts : SurfaceDiagnostics → List ℕ
diagnosed_counts d = check_counts d.butterfly ++ check_counts d.calendar_slope ++ check_counts d.calendar_gap ++ d.evaluation_failures ∷ []

-- of the butterflies, of the slopes, of the gaps
abbrev pub diagnosed_worst : SurfaceDiagnostics → List Float
diagnosed_worst d = check_worst d.butterfly ++ check_worst d.calendar_slope ++ check_worst d.calendar_gap

-- ---- out of such rows

-- found is 0 for no, any other number for yes
abbrev pub check_of : ℕ → ℕ → ℕ → Float → Float → Float → Check
check_of points violations found k tau value = record { points = points; violations = violations; worst = record { found = not (eqb found 0); at = point_at k tau value } }

-- the check whose counts and worst begin at place i
abbrev pub check_at : ℕ → List ℕ → List Float → Check
check_at i counts worst = check_of (count_at counts i) (count_at counts (i + 1)) (count_at counts (i + 2)) (at worst i) (at worst (i + 1)) (at worst (i + 2))

-- the report whose rows these are
abbrev pub report_at : List ℕ → List Float → SurfaceDiagnostics
report_at counts worst = record { butterfly = check_at 0 counts worst; calendar_slope = check_at 3 counts worst; calendar_gap = check_at 6 counts worst; evaluation_failures = count_at counts 9 }
