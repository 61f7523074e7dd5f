-- No second answer meets the contract of a public function of crate `port`. Written by tools/settle from the contracts. Assumes nothing.
use Rattle.cell.specs.Cell.{inner_of}
use Rattle.diagnostics.specs.Diagnostics.{report_clean}
use Rattle.diagnostics.specs.Tally.{is_clean, point_at, recorded_of}
use Rattle.diagnostics.specs.declared.tally.Check.{Check}
use Rattle.exponent.specs.Exp.{exp_of}
use Rattle.exponent.specs.Ln.{ln_of}
use Rattle.laws.proofs.Choices.{settled}
use Rattle.point.specs.Point.{point_number, total_of}
use Rattle.port.specs.Abi.{abi_number}
use Rattle.port.specs.FitRows.{FittedRows, QuotesRows}
use Rattle.records.specs.Settings.{defaults_of}
use Rattle.roots.specs.Hypot.{hypot_of}
use Rattle.roots.specs.Root.{root_of}
use Rattle.rows.specs.Answers.{bracket_for, check_at, covers_for, diagnosed_counts, diagnosed_for, diagnosed_worst, is_calibrated, places_row, policy_number, region_for, report_at, room_for, total_answer, total_for, total_row, weight_in}
use Rattle.rows.specs.Flag.{flag}
use Rattle.rows.specs.Rows.{cell_counts, cell_values, range_row, read_limits, read_range, read_slice, reals_row, sizes_row, slice_row, values_row}
use Rattle.rows.specs.Slices.{level_answer, range_answer, slice_answer, values_answer}
use Rattle.run.specs.Answer.{answer_of}
use Rattle.slice.specs.Slice.{eval_of, holds_k, lee_slope_of, made_of, minimum_of, ranged_of}
use Rattle.slice.specs.declared.SviSlice.{SviSlice}
use Rattle.solver.specs.Solve.{solve_of}
use Rattle.std.specs.Prelude.{Bool, Float, List, [], length, ℕ, ◌∷◌, ◌≡◌, ◌≤◌}
use Rattle.surface.specs.Lookup.{default_policy}
use Rattle.surface.specs.Runs.{check_run, run_of}
use Rattle.text.specs.Place.{longest, placed}

-- port::port_abi
pub port_abi : {r₁ r₂ : ℕ} → (r₁ ≡ abi_number) → (r₂ ≡ abi_number) → r₁ ≡ r₂
port_abi h₁ h₂ = settled h₁ h₂

-- port::port_raw_default_config
pub port_raw_default_config : (sizes : List ℕ) (reals : List Float) {sizes-exit₁ sizes-exit₂ : List ℕ} {reals-exit₁ reals-exit₂ : List Float} → ((sizes-exit₁ ≡ sizes_row defaults_of) × (reals-exit₁ ≡ reals_row defaults_of)) → ((sizes-exit₂ ≡ sizes_row defaults_of) × (reals-exit₂ ≡ reals_row defaults_of)) → (sizes-exit₁ ≡ sizes-exit₂) × (reals-exit₁ ≡ reals-exit₂)
port_raw_default_config sizes reals {sizes-exit₁} {sizes-exit₂} {reals-exit₁} {reals-exit₂} h₁ h₂ = (cc, cc)

-- port::port_raw_fit_slice
pub port_raw_fit_slice : (tau : Float) (sizes : List ℕ) (reals : List Float) (k : List Float) (w : List Float) (weight : List Float) (residuals : List Float) (capped : List ℕ) (counts : List ℕ) (values : List Float) (active : List Bool) {r₁ r₂ : ℕ} {residuals-exit₁ residuals-exit₂ : List Float} {capped-exit₁ capped-exit₂ : List ℕ} {counts-exit₁ counts-exit₂ : List ℕ} {values-exit₁ values-exit₂ : List Float} {active-exit₁ active-exit₂ : List Bool} → (FittedRows tau sizes reals k w weight residuals capped r₁ residuals-exit₁ capped-exit₁ counts-exit₁ values-exit₁ active-exit₁) → (FittedRows tau sizes reals k w weight residuals capped r₂ residuals-exit₂ capped-exit₂ counts-exit₂ values-exit₂ active-exit₂) → (r₁ ≡ r₂) × (residuals-exit₁ ≡ residuals-exit₂) × (capped-exit₁ ≡ capped-exit₂) × (counts-exit₁ ≡ counts-exit₂) × (values-exit₁ ≡ values-exit₂) × (active-exit₁ ≡ active-exit₂)
port_raw_fit_slice tau sizes reals k w weight residuals capped counts values active {r₁} {r₂} {residuals-exit₁} {residuals-exit₂} {capped-exit₁} {capped-exit₂} {counts-exit₁} {counts-exit₂} {values-exit₁} {values-exit₂} {active-exit₁} {active-exit₂} h₁ h₂ = (cc, cc, cc, cc, cc, cc)

-- port::port_raw_fit_quotes
pub port_raw_fit_quotes : (tau : Float) (sizes : List ℕ) (reals : List Float) (quotes : List ℕ) (residuals : List Float) (capped : List ℕ) (counts : List ℕ) (values : List Float) (active : List Bool) {r₁ r₂ : ℕ} {residuals-exit₁ residuals-exit₂ : List Float} {capped-exit₁ capped-exit₂ : List ℕ} {counts-exit₁ counts-exit₂ : List ℕ} {values-exit₁ values-exit₂ : List Float} {active-exit₁ active-exit₂ : List Bool} → (QuotesRows tau sizes reals quotes residuals capped r₁ residuals-exit₁ capped-exit₁ counts-exit₁ values-exit₁ active-exit₁) → (QuotesRows tau sizes reals quotes residuals capped r₂ residuals-exit₂ capped-exit₂ counts-exit₂ values-exit₂ active-exit₂) → (r₁ ≡ r₂) × (residuals-exit₁ ≡ residuals-exit₂) × (capped-exit₁ ≡ capped-exit₂) × (counts-exit₁ ≡ counts-exit₂) × (values-exit₁ ≡ values-exit₂) × (active-exit₁ ≡ active-exit₂)
port_raw_fit_quotes tau sizes reals quotes residuals capped counts values active {r₁} {r₂} {residuals-exit₁} {residuals-exit₂} {capped-exit₁} {capped-exit₂} {counts-exit₁} {counts-exit₂} {values-exit₁} {values-exit₂} {active-exit₁} {active-exit₂} h₁ h₂ = (cc, cc, cc, cc, cc, cc)

-- port::port_sqrt
pub port_sqrt : (x : Float) {r₁ r₂ : Float} → (r₁ ≡ root_of x) → (r₂ ≡ root_of x) → r₁ ≡ r₂
port_sqrt x h₁ h₂ = settled h₁ h₂

-- port::port_hypot
pub port_hypot : (x : Float) (y : Float) {r₁ r₂ : Float} → (r₁ ≡ hypot_of x y) → (r₂ ≡ hypot_of x y) → r₁ ≡ r₂
port_hypot x y h₁ h₂ = settled h₁ h₂

-- port::port_ln
pub port_ln : (x : Float) {r₁ r₂ : Float} → (r₁ ≡ ln_of x) → (r₂ ≡ ln_of x) → r₁ ≡ r₂
port_ln x h₁ h₂ = settled h₁ h₂

-- port::port_exp
pub port_exp : (x : Float) {r₁ r₂ : Float} → (r₁ ≡ exp_of x) → (r₂ ≡ exp_of x) → r₁ ≡ r₂
port_exp x h₁ h₂ = settled h₁ h₂

-- port::port_run
pub port_run : (file : List ℕ) (out : List ℕ) {r₁ r₂ : ℕ} {out-exit₁ out-exit₂ : List ℕ} → ((r₁ ≡ length (answer_of file)) × (out-exit₁ ≡ placed (answer_of file) out) × (r₁ ≤ longest)) → ((r₂ ≡ length (answer_of file)) × (out-exit₂ ≡ placed (answer_of file) out) × (r₂ ≤ longest)) → (r₁ ≡ r₂) × (out-exit₁ ≡ out-exit₂)
port_run file out {r₁} {r₂} {out-exit₁} {out-exit₂} h₁ h₂ = (cc, cc)

-- port::port_raw_k_range
pub port_raw_k_range : (lo : Float) (hi : Float) (range : List Float) {r₁ r₂ : ℕ} {range-exit₁ range-exit₂ : List Float} → ((r₁ ≡ (range_answer (ranged_of lo hi)).number) × (range-exit₁ ≡ range_row (range_answer (ranged_of lo hi)).value)) → ((r₂ ≡ (range_answer (ranged_of lo hi)).number) × (range-exit₂ ≡ range_row (range_answer (ranged_of lo hi)).value)) → (r₁ ≡ r₂) × (range-exit₁ ≡ range-exit₂)
port_raw_k_range lo hi range {r₁} {r₂} {range-exit₁} {range-exit₂} h₁ h₂ = (cc, cc)

-- port::port_raw_contains
pub port_raw_contains : (range : List Float) (k : Float) {r₁ r₂ : ℕ} → (r₁ ≡ flag (holds_k (read_range range) k)) → (r₂ ≡ flag (holds_k (read_range range) k)) → r₁ ≡ r₂
port_raw_contains range k h₁ h₂ = settled h₁ h₂

-- port::port_raw_slice
pub port_raw_slice : (tau : Float) (a : Float) (b : Float) (rho : Float) (m : Float) (sigma : Float) (range : List Float) (slice : List Float) {r₁ r₂ : ℕ} {slice-exit₁ slice-exit₂ : List Float} → ((r₁ ≡ (slice_answer (made_of tau a b rho m sigma (read_range range))).number) × (slice-exit₁ ≡ slice_row (slice_answer (made_of tau a b rho m sigma (read_range range))).value)) → ((r₂ ≡ (slice_answer (made_of tau a b rho m sigma (read_range range))).number) × (slice-exit₂ ≡ slice_row (slice_answer (made_of tau a b rho m sigma (read_range range))).value)) → (r₁ ≡ r₂) × (slice-exit₁ ≡ slice-exit₂)
port_raw_slice tau a b rho m sigma range slice {r₁} {r₂} {slice-exit₁} {slice-exit₂} h₁ h₂ = (cc, cc)

-- port::port_raw_minimum
pub port_raw_minimum : (slice : List Float) (value : List Float) {r₁ r₂ : ℕ} {value-exit₁ value-exit₂ : List Float} → ((r₁ ≡ (level_answer (minimum_of (read_slice slice))).number) × (value-exit₁ ≡ (level_answer (minimum_of (read_slice slice))).value ∷ [])) → ((r₂ ≡ (level_answer (minimum_of (read_slice slice))).number) × (value-exit₂ ≡ (level_answer (minimum_of (read_slice slice))).value ∷ [])) → (r₁ ≡ r₂) × (value-exit₁ ≡ value-exit₂)
port_raw_minimum slice value {r₁} {r₂} {value-exit₁} {value-exit₂} h₁ h₂ = (cc, cc)

-- port::port_raw_lee_slope
pub port_raw_lee_slope : (slice : List Float) (value : List Float) {r₁ r₂ : ℕ} {value-exit₁ value-exit₂ : List Float} → ((r₁ ≡ (level_answer (lee_slope_of (read_slice slice))).number) × (value-exit₁ ≡ (level_answer (lee_slope_of (read_slice slice))).value ∷ [])) → ((r₂ ≡ (level_answer (lee_slope_of (read_slice slice))).number) × (value-exit₂ ≡ (level_answer (lee_slope_of (read_slice slice))).value ∷ [])) → (r₁ ≡ r₂) × (value-exit₁ ≡ value-exit₂)
port_raw_lee_slope slice value {r₁} {r₂} {value-exit₁} {value-exit₂} h₁ h₂ = (cc, cc)

-- port::port_raw_eval
pub port_raw_eval : (slice : List Float) (k : Float) (values : List Float) {r₁ r₂ : ℕ} {values-exit₁ values-exit₂ : List Float} → ((r₁ ≡ (values_answer (eval_of (read_slice slice) k)).number) × (values-exit₁ ≡ values_row (values_answer (eval_of (read_slice slice) k)).value)) → ((r₂ ≡ (values_answer (eval_of (read_slice slice) k)).number) × (values-exit₂ ≡ values_row (values_answer (eval_of (read_slice slice) k)).value)) → (r₁ ≡ r₂) × (values-exit₁ ≡ values-exit₂)
port_raw_eval slice k values {r₁} {r₂} {values-exit₁} {values-exit₂} h₁ h₂ = (cc, cc)

-- port::port_raw_solve
pub port_raw_solve : (m : List Float) (rhs : List Float) (n : ℕ) (tol : Float) (x : List Float) (updates : List ℕ) {r₁ r₂ : ℕ} {x-exit₁ x-exit₂ : List Float} {updates-exit₁ updates-exit₂ : List ℕ} → ((r₁ ≡ flag (solve_of n m rhs tol).ok) × (x-exit₁ ≡ (solve_of n m rhs tol).x) × (updates-exit₁ ≡ (solve_of n m rhs tol).updates ∷ [])) → ((r₂ ≡ flag (solve_of n m rhs tol).ok) × (x-exit₂ ≡ (solve_of n m rhs tol).x) × (updates-exit₂ ≡ (solve_of n m rhs tol).updates ∷ [])) → (r₁ ≡ r₂) × (x-exit₁ ≡ x-exit₂) × (updates-exit₁ ≡ updates-exit₂)
port_raw_solve m rhs n tol x updates {r₁} {r₂} {x-exit₁} {x-exit₂} {updates-exit₁} {updates-exit₂} h₁ h₂ = (cc, cc, cc)

-- port::port_raw_cell
pub port_raw_cell : (k : List Float) (w : List Float) (scaled : List Float) (limits : List Float) (m : Float) (sigma : Float) (counts : List ℕ) (values : List Float) (active : List Bool) {r₁ r₂ : ℕ} {counts-exit₁ counts-exit₂ : List ℕ} {values-exit₁ values-exit₂ : List Float} {active-exit₁ active-exit₂ : List Bool} → ((r₁ ≡ flag (inner_of k w scaled (read_limits limits) m sigma).some) × (counts-exit₁ ≡ cell_counts (inner_of k w scaled (read_limits limits) m sigma)) × (values-exit₁ ≡ cell_values (inner_of k w scaled (read_limits limits) m sigma)) × (active-exit₁ ≡ (inner_of k w scaled (read_limits limits) m sigma).active)) → ((r₂ ≡ flag (inner_of k w scaled (read_limits limits) m sigma).some) × (counts-exit₂ ≡ cell_counts (inner_of k w scaled (read_limits limits) m sigma)) × (values-exit₂ ≡ cell_values (inner_of k w scaled (read_limits limits) m sigma)) × (active-exit₂ ≡ (inner_of k w scaled (read_limits limits) m sigma).active)) → (r₁ ≡ r₂) × (counts-exit₁ ≡ counts-exit₂) × (values-exit₁ ≡ values-exit₂) × (active-exit₁ ≡ active-exit₂)
port_raw_cell k w scaled limits m sigma counts values active {r₁} {r₂} {counts-exit₁} {counts-exit₂} {values-exit₁} {values-exit₂} {active-exit₁} {active-exit₂} h₁ h₂ = (cc, cc, cc, cc)

-- port::port_check_point
pub port_check_point : (k : Float) (tau : Float) {r₁ r₂ : ℕ} → (r₁ ≡ point_number k tau) → (r₂ ≡ point_number k tau) → r₁ ≡ r₂
port_check_point k tau h₁ h₂ = settled h₁ h₂

-- port::port_raw_total
pub port_raw_total : (w : Float) (w_k : Float) (w_kk : Float) (w_tau : Float) (total : List Float) {r₁ r₂ : ℕ} {total-exit₁ total-exit₂ : List Float} → ((r₁ ≡ (total_answer (total_of w w_k w_kk w_tau)).number) × (total-exit₁ ≡ total_row (total_answer (total_of w w_k w_kk w_tau)).value)) → ((r₂ ≡ (total_answer (total_of w w_k w_kk w_tau)).number) × (total-exit₂ ≡ total_row (total_answer (total_of w w_k w_kk w_tau)).value)) → (r₁ ≡ r₂) × (total-exit₁ ≡ total-exit₂)
port_raw_total w w_k w_kk w_tau total {r₁} {r₂} {total-exit₁} {total-exit₂} h₁ h₂ = (cc, cc)

-- port::port_default_policy
pub port_default_policy : {r₁ r₂ : ℕ} → (r₁ ≡ policy_number default_policy) → (r₂ ≡ policy_number default_policy) → r₁ ≡ r₂
port_default_policy h₁ h₂ = settled h₁ h₂

-- port::port_surface
pub port_surface : (slices : List SviSlice) {r₁ r₂ : ℕ} → (r₁ ≡ check_run (run_of slices)) → (r₂ ≡ check_run (run_of slices)) → r₁ ≡ r₂
port_surface slices h₁ h₂ = settled h₁ h₂

-- port::port_raw_bracket
pub port_raw_bracket : (slices : List SviSlice) (policy : ℕ) (k : Float) (tau : Float) (places : List ℕ) (x : List Float) {r₁ r₂ : ℕ} {places-exit₁ places-exit₂ : List ℕ} {x-exit₁ x-exit₂ : List Float} → ((r₁ ≡ (bracket_for (run_of slices) policy k tau).number) × (places-exit₁ ≡ places_row (bracket_for (run_of slices) policy k tau).value) × (x-exit₁ ≡ weight_in (bracket_for (run_of slices) policy k tau).value ∷ [])) → ((r₂ ≡ (bracket_for (run_of slices) policy k tau).number) × (places-exit₂ ≡ places_row (bracket_for (run_of slices) policy k tau).value) × (x-exit₂ ≡ weight_in (bracket_for (run_of slices) policy k tau).value ∷ [])) → (r₁ ≡ r₂) × (places-exit₁ ≡ places-exit₂) × (x-exit₁ ≡ x-exit₂)
port_raw_bracket slices policy k tau places x {r₁} {r₂} {places-exit₁} {places-exit₂} {x-exit₁} {x-exit₂} h₁ h₂ = (cc, cc, cc)

-- port::port_raw_region
pub port_raw_region : (slices : List SviSlice) (policy : ℕ) (k : Float) (tau : Float) (calibrated : List ℕ) {r₁ r₂ : ℕ} {calibrated-exit₁ calibrated-exit₂ : List ℕ} → ((r₁ ≡ (region_for (run_of slices) policy k tau).number) × (calibrated-exit₁ ≡ flag (is_calibrated (region_for (run_of slices) policy k tau).value) ∷ [])) → ((r₂ ≡ (region_for (run_of slices) policy k tau).number) × (calibrated-exit₂ ≡ flag (is_calibrated (region_for (run_of slices) policy k tau).value) ∷ [])) → (r₁ ≡ r₂) × (calibrated-exit₁ ≡ calibrated-exit₂)
port_raw_region slices policy k tau calibrated {r₁} {r₂} {calibrated-exit₁} {calibrated-exit₂} h₁ h₂ = (cc, cc)

-- port::port_raw_total_variance
pub port_raw_total_variance : (slices : List SviSlice) (policy : ℕ) (k : Float) (tau : Float) (total : List Float) {r₁ r₂ : ℕ} {total-exit₁ total-exit₂ : List Float} → ((r₁ ≡ (total_for (run_of slices) policy k tau).number) × (total-exit₁ ≡ total_row (total_for (run_of slices) policy k tau).value)) → ((r₂ ≡ (total_for (run_of slices) policy k tau).number) × (total-exit₂ ≡ total_row (total_for (run_of slices) policy k tau).value)) → (r₁ ≡ r₂) × (total-exit₁ ≡ total-exit₂)
port_raw_total_variance slices policy k tau total {r₁} {r₂} {total-exit₁} {total-exit₂} h₁ h₂ = (cc, cc)

-- port::port_raw_covers_nodes
pub port_raw_covers_nodes : (slices : List SviSlice) (ks : List Float) (taus : List Float) (all : List ℕ) {r₁ r₂ : ℕ} {all-exit₁ all-exit₂ : List ℕ} → ((r₁ ≡ (covers_for (run_of slices) ks taus).number) × (all-exit₁ ≡ flag (covers_for (run_of slices) ks taus).value ∷ [])) → ((r₂ ≡ (covers_for (run_of slices) ks taus).number) × (all-exit₂ ≡ flag (covers_for (run_of slices) ks taus).value ∷ [])) → (r₁ ≡ r₂) × (all-exit₁ ≡ all-exit₂)
port_raw_covers_nodes slices ks taus all {r₁} {r₂} {all-exit₁} {all-exit₂} h₁ h₂ = (cc, cc)

-- port::port_raw_diagnose
pub port_raw_diagnose : (slices : List SviSlice) (policy : ℕ) (ks : List Float) (taus : List Float) (butterfly_tolerance : Float) (calendar_tolerance : Float) (room : List Float) (counts : List ℕ) (worst : List Float) {r₁ r₂ : ℕ} {room-exit₁ room-exit₂ : List Float} {counts-exit₁ counts-exit₂ : List ℕ} {worst-exit₁ worst-exit₂ : List Float} → ((r₁ ≡ (diagnosed_for (run_of slices) policy ks taus butterfly_tolerance calendar_tolerance room).number) × (room-exit₁ ≡ room_for (run_of slices) policy ks taus butterfly_tolerance calendar_tolerance room) × (counts-exit₁ ≡ diagnosed_counts (diagnosed_for (run_of slices) policy ks taus butterfly_tolerance calendar_tolerance room).value) × (worst-exit₁ ≡ diagnosed_worst (diagnosed_for (run_of slices) policy ks taus butterfly_tolerance calendar_tolerance room).value)) → ((r₂ ≡ (diagnosed_for (run_of slices) policy ks taus butterfly_tolerance calendar_tolerance room).number) × (room-exit₂ ≡ room_for (run_of slices) policy ks taus butterfly_tolerance calendar_tolerance room) × (counts-exit₂ ≡ diagnosed_counts (diagnosed_for (run_of slices) policy ks taus butterfly_tolerance calendar_tolerance room).value) × (worst-exit₂ ≡ diagnosed_worst (diagnosed_for (run_of slices) policy ks taus butterfly_tolerance calendar_tolerance room).value)) → (r₁ ≡ r₂) × (room-exit₁ ≡ room-exit₂) × (counts-exit₁ ≡ counts-exit₂) × (worst-exit₁ ≡ worst-exit₂)
port_raw_diagnose slices policy ks taus butterfly_tolerance calendar_tolerance room counts worst {r₁} {r₂} {room-exit₁} {room-exit₂} {counts-exit₁} {counts-exit₂} {worst-exit₁} {worst-exit₂} h₁ h₂ = (cc, cc, cc, cc)

-- port::port_raw_check_record
pub port_raw_check_record : (check : Check) (k : Float) (tau : Float) (value : Float) (tolerance : Float) {check-exit₁ check-exit₂ : Check} → (check-exit₁ ≡ recorded_of check (point_at k tau value) tolerance) → (check-exit₂ ≡ recorded_of check (point_at k tau value) tolerance) → check-exit₁ ≡ check-exit₂
port_raw_check_record check k tau value tolerance {check-exit₁} {check-exit₂} h₁ h₂ = cc

-- port::port_raw_check_clean
pub port_raw_check_clean : (counts : List ℕ) (worst : List Float) {r₁ r₂ : ℕ} → (r₁ ≡ flag (is_clean (check_at 0 counts worst))) → (r₂ ≡ flag (is_clean (check_at 0 counts worst))) → r₁ ≡ r₂
port_raw_check_clean counts worst h₁ h₂ = settled h₁ h₂

-- port::port_raw_report_clean
pub port_raw_report_clean : (counts : List ℕ) (worst : List Float) {r₁ r₂ : ℕ} → (r₁ ≡ flag (report_clean (report_at counts worst))) → (r₂ ≡ flag (report_clean (report_at counts worst))) → r₁ ≡ r₂
port_raw_report_clean counts worst h₁ h₂ = settled h₁ h₂
