-- No second answer meets the contract of a public function of crate `rows`. Written by tools/settle from the contracts. Assumes nothing.
use Rattle.cell.specs.declared.Limits.{Limits}
use Rattle.diagnostics.specs.declared.report.SurfaceDiagnostics.{SurfaceDiagnostics}
use Rattle.diagnostics.specs.declared.tally.Check.{Check}
use Rattle.laws.proofs.Choices.{settled}
use Rattle.point.specs.declared.TotalVariance.{TotalVariance}
use Rattle.records.specs.declared.FitAnswer.{FitAnswer}
use Rattle.records.specs.declared.FitConfig.{FitConfig}
use Rattle.refusals.specs.Numbers.{number_in, numbered}
use Rattle.refusals.specs.declared.Refusal.{Refusal}
use Rattle.rows.specs.Answers.{bracket_for, check_at, covers_for, diagnosed_counts, diagnosed_for, diagnosed_worst, is_calibrated, places_row, policy_number, region_for, report_at, room_for, total_answer, total_for, total_row, weight_in}
use Rattle.rows.specs.Flag.{flag}
use Rattle.rows.specs.Rows.{fit_counts, fit_values, read_config, read_limits, read_range, read_slice}
use Rattle.rows.specs.Told.{told_as}
use Rattle.rows.specs.declared.Answer.{Answer}
use Rattle.slice.specs.declared.KRange.{KRange}
use Rattle.slice.specs.declared.SviSlice.{SviSlice}
use Rattle.std.specs.Prelude.{Float, List, Result, [], ℕ, ⊤, ◌∷◌, ◌≡◌}
use Rattle.surface.specs.declared.types.Run.{Run}
use Rattle.surface.specs.declared.types.ShortExpiryPolicy.{ShortExpiryPolicy}

-- rows::policy_number
pub policy_number_lem : (policy : ShortExpiryPolicy) {r₁ r₂ : ℕ} → (r₁ ≡ policy_number policy) → (r₂ ≡ policy_number policy) → r₁ ≡ r₂
policy_number_lem policy h₁ h₂ = settled h₁ h₂

-- rows::write_total
pub write_total : (t : Result TotalVariance ℕ) (total : List Float) {r₁ r₂ : ℕ} {total-exit₁ total-exit₂ : List Float} → ((r₁ ≡ (total_answer t).number) × (total-exit₁ ≡ total_row (total_answer t).value)) → ((r₂ ≡ (total_answer t).number) × (total-exit₂ ≡ total_row (total_answer t).value)) → (r₁ ≡ r₂) × (total-exit₁ ≡ total-exit₂)
write_total t total {r₁} {r₂} {total-exit₁} {total-exit₂} h₁ h₂ = (cc, cc)

-- rows::check_at
pub check_at_lem : (counts : List ℕ) (worst : List Float) {r₁ r₂ : Check} → (r₁ ≡ check_at 0 counts worst) → (r₂ ≡ check_at 0 counts worst) → r₁ ≡ r₂
check_at_lem counts worst h₁ h₂ = settled h₁ h₂

-- rows::report_at
pub report_at_lem : (counts : List ℕ) (worst : List Float) {r₁ r₂ : SurfaceDiagnostics} → (r₁ ≡ report_at counts worst) → (r₂ ≡ report_at counts worst) → r₁ ≡ r₂
report_at_lem counts worst h₁ h₂ = settled h₁ h₂

-- rows::bracket_of
pub bracket_of : (run : Run) (policy : ℕ) (k : Float) (tau : Float) (places : List ℕ) (x : List Float) {r₁ r₂ : ℕ} {places-exit₁ places-exit₂ : List ℕ} {x-exit₁ x-exit₂ : List Float} → ((r₁ ≡ (bracket_for run policy k tau).number) × (places-exit₁ ≡ places_row (bracket_for run policy k tau).value) × (x-exit₁ ≡ weight_in (bracket_for run policy k tau).value ∷ [])) → ((r₂ ≡ (bracket_for run policy k tau).number) × (places-exit₂ ≡ places_row (bracket_for run policy k tau).value) × (x-exit₂ ≡ weight_in (bracket_for run policy k tau).value ∷ [])) → (r₁ ≡ r₂) × (places-exit₁ ≡ places-exit₂) × (x-exit₁ ≡ x-exit₂)
bracket_of run policy k tau places x {r₁} {r₂} {places-exit₁} {places-exit₂} {x-exit₁} {x-exit₂} h₁ h₂ = (cc, cc, cc)

-- rows::region_of
pub region_of : (run : Run) (policy : ℕ) (k : Float) (tau : Float) (calibrated : List ℕ) {r₁ r₂ : ℕ} {calibrated-exit₁ calibrated-exit₂ : List ℕ} → ((r₁ ≡ (region_for run policy k tau).number) × (calibrated-exit₁ ≡ flag (is_calibrated (region_for run policy k tau).value) ∷ [])) → ((r₂ ≡ (region_for run policy k tau).number) × (calibrated-exit₂ ≡ flag (is_calibrated (region_for run policy k tau).value) ∷ [])) → (r₁ ≡ r₂) × (calibrated-exit₁ ≡ calibrated-exit₂)
region_of run policy k tau calibrated {r₁} {r₂} {calibrated-exit₁} {calibrated-exit₂} h₁ h₂ = (cc, cc)

-- rows::total_of
pub total_of : (run : Run) (policy : ℕ) (k : Float) (tau : Float) (total : List Float) {r₁ r₂ : ℕ} {total-exit₁ total-exit₂ : List Float} → ((r₁ ≡ (total_for run policy k tau).number) × (total-exit₁ ≡ total_row (total_for run policy k tau).value)) → ((r₂ ≡ (total_for run policy k tau).number) × (total-exit₂ ≡ total_row (total_for run policy k tau).value)) → (r₁ ≡ r₂) × (total-exit₁ ≡ total-exit₂)
total_of run policy k tau total {r₁} {r₂} {total-exit₁} {total-exit₂} h₁ h₂ = (cc, cc)

-- rows::covers_of
pub covers_of : (run : Run) (ks : List Float) (taus : List Float) (all : List ℕ) {r₁ r₂ : ℕ} {all-exit₁ all-exit₂ : List ℕ} → ((r₁ ≡ (covers_for run ks taus).number) × (all-exit₁ ≡ flag (covers_for run ks taus).value ∷ [])) → ((r₂ ≡ (covers_for run ks taus).number) × (all-exit₂ ≡ flag (covers_for run ks taus).value ∷ [])) → (r₁ ≡ r₂) × (all-exit₁ ≡ all-exit₂)
covers_of run ks taus all {r₁} {r₂} {all-exit₁} {all-exit₂} h₁ h₂ = (cc, cc)

-- rows::diagnose_of
pub diagnose_of : (run : Run) (policy : ℕ) (ks : List Float) (taus : List Float) (butterfly_tolerance : Float) (calendar_tolerance : Float) (room : List Float) (counts : List ℕ) (worst : List Float) {r₁ r₂ : ℕ} {room-exit₁ room-exit₂ : List Float} {counts-exit₁ counts-exit₂ : List ℕ} {worst-exit₁ worst-exit₂ : List Float} → ((r₁ ≡ (diagnosed_for run policy ks taus butterfly_tolerance calendar_tolerance room).number) × (room-exit₁ ≡ room_for run policy ks taus butterfly_tolerance calendar_tolerance room) × (counts-exit₁ ≡ diagnosed_counts (diagnosed_for run policy ks taus butterfly_tolerance calendar_tolerance room).value) × (worst-exit₁ ≡ diagnosed_worst (diagnosed_for run policy ks taus butterfly_tolerance calendar_tolerance room).value)) → ((r₂ ≡ (diagnosed_for run policy ks taus butterfly_tolerance calendar_tolerance room).number) × (room-exit₂ ≡ room_for run policy ks taus butterfly_tolerance calendar_tolerance room) × (counts-exit₂ ≡ diagnosed_counts (diagnosed_for run policy ks taus butterfly_tolerance calendar_tolerance room).value) × (worst-exit₂ ≡ diagnosed_worst (diagnosed_for run policy ks taus butterfly_tolerance calendar_tolerance room).value)) → (r₁ ≡ r₂) × (room-exit₁ ≡ room-exit₂) × (counts-exit₁ ≡ counts-exit₂) × (worst-exit₁ ≡ worst-exit₂)
diagnose_of run policy ks taus butterfly_tolerance calendar_tolerance room counts worst {r₁} {r₂} {room-exit₁} {room-exit₂} {counts-exit₁} {counts-exit₂} {worst-exit₁} {worst-exit₂} h₁ h₂ = (cc, cc, cc, cc)

-- rows::read_config
pub read_config_lem : (sizes : List ℕ) (reals : List Float) {r₁ r₂ : FitConfig} → (r₁ ≡ read_config sizes reals) → (r₂ ≡ read_config sizes reals) → r₁ ≡ r₂
read_config_lem sizes reals h₁ h₂ = settled h₁ h₂

-- rows::read_limits
pub read_limits_lem : (row : List Float) {r₁ r₂ : Limits} → (r₁ ≡ read_limits row) → (r₂ ≡ read_limits row) → r₁ ≡ r₂
read_limits_lem row h₁ h₂ = settled h₁ h₂

-- rows::fit_counts
pub fit_counts_lem : (a : FitAnswer) {r₁ r₂ : List ℕ} → (r₁ ≡ fit_counts a) → (r₂ ≡ fit_counts a) → r₁ ≡ r₂
fit_counts_lem a h₁ h₂ = settled h₁ h₂

-- rows::fit_values
pub fit_values_lem : (a : FitAnswer) {r₁ r₂ : List Float} → (r₁ ≡ fit_values a) → (r₂ ≡ fit_values a) → r₁ ≡ r₂
fit_values_lem a h₁ h₂ = settled h₁ h₂

-- rows::told_number
pub told_number : {T : Type 0} (from : Result T ℕ) (none : T) {r₁ r₂ : Answer T} → (r₁ ≡ told_as none from) → (r₂ ≡ told_as none from) → r₁ ≡ r₂
told_number from none h₁ h₂ = settled h₁ h₂

-- rows::numbered
pub numbered_lem : {T : Type 0} (from : Result T Refusal) {r₁ r₂ : Result T ℕ} → (r₁ ≡ numbered from) → (r₂ ≡ numbered from) → r₁ ≡ r₂
numbered_lem from h₁ h₂ = settled h₁ h₂

-- rows::told
pub told : {T : Type 0} (from : Result T Refusal) (none : T) {r₁ r₂ : Answer T} → (r₁ ≡ told_as none (numbered from)) → (r₂ ≡ told_as none (numbered from)) → r₁ ≡ r₂
told from none h₁ h₂ = settled h₁ h₂

-- rows::number
pub number : (check : Result ⊤ Refusal) {r₁ r₂ : ℕ} → (r₁ ≡ number_in check) → (r₂ ≡ number_in check) → r₁ ≡ r₂
number check h₁ h₂ = settled h₁ h₂

-- rows::read_range
pub read_range_lem : (row : List Float) {r₁ r₂ : KRange} → (r₁ ≡ read_range row) → (r₂ ≡ read_range row) → r₁ ≡ r₂
read_range_lem row h₁ h₂ = settled h₁ h₂

-- rows::read_slice
pub read_slice_lem : (row : List Float) {r₁ r₂ : SviSlice} → (r₁ ≡ read_slice row) → (r₂ ≡ read_slice row) → r₁ ≡ r₂
read_slice_lem row h₁ h₂ = settled h₁ h₂
