-- No second answer meets the contract of a public function of crate `lent`. Written by tools/settle from the contracts. Assumes nothing.
use Rattle.diagnostics.specs.Diagnostics.{diagnose_of}
use Rattle.diagnostics.specs.declared.report.DiagnosticsConfig.{DiagnosticsConfig}
use Rattle.diagnostics.specs.declared.report.SurfaceDiagnostics.{SurfaceDiagnostics}
use Rattle.point.specs.declared.TotalVariance.{TotalVariance}
use Rattle.refusals.proofs.Numbers.{one_answer, one_check}
use Rattle.refusals.specs.Numbers.{number_in, numbered}
use Rattle.refusals.specs.declared.Refusal.{Refusal}
use Rattle.slice.specs.declared.SviSlice.{SviSlice}
use Rattle.std.specs.Prelude.{Bool, Float, List, Result, ⊤, ◌≡◌}
use Rattle.surface.specs.Runs.{check_run, run_of}
use Rattle.surface.specs.Surface.{bracket_run, covers_run, region_run, total_run}
use Rattle.surface.specs.declared.types.Bracket.{Bracket}
use Rattle.surface.specs.declared.types.Region.{Region}
use Rattle.surface.specs.declared.types.ShortExpiryPolicy.{ShortExpiryPolicy}

-- lent::check_surface
pub check_surface : (slices : List SviSlice) {r₁ r₂ : Result ⊤ Refusal} → (number_in r₁ ≡ check_run (run_of slices)) → (number_in r₂ ≡ check_run (run_of slices)) → r₁ ≡ r₂
check_surface slices h₁ h₂ = one_check h₁ h₂

-- lent::bracket
pub bracket : (slices : List SviSlice) (policy : ShortExpiryPolicy) (k : Float) (tau : Float) {r₁ r₂ : Result Bracket Refusal} → (numbered r₁ ≡ bracket_run (run_of slices) policy k tau) → (numbered r₂ ≡ bracket_run (run_of slices) policy k tau) → r₁ ≡ r₂
bracket slices policy k tau h₁ h₂ = one_answer h₁ h₂

-- lent::region
pub region : (slices : List SviSlice) (policy : ShortExpiryPolicy) (k : Float) (tau : Float) {r₁ r₂ : Result Region Refusal} → (numbered r₁ ≡ region_run (run_of slices) policy k tau) → (numbered r₂ ≡ region_run (run_of slices) policy k tau) → r₁ ≡ r₂
region slices policy k tau h₁ h₂ = one_answer h₁ h₂

-- lent::total_variance
pub total_variance : (slices : List SviSlice) (policy : ShortExpiryPolicy) (k : Float) (tau : Float) {r₁ r₂ : Result TotalVariance Refusal} → (numbered r₁ ≡ total_run (run_of slices) policy k tau) → (numbered r₂ ≡ total_run (run_of slices) policy k tau) → r₁ ≡ r₂
total_variance slices policy k tau h₁ h₂ = one_answer h₁ h₂

-- lent::covers_nodes
pub covers_nodes : (slices : List SviSlice) (ks : List Float) (taus : List Float) {r₁ r₂ : Result Bool Refusal} → (numbered r₁ ≡ covers_run (run_of slices) ks taus) → (numbered r₂ ≡ covers_run (run_of slices) ks taus) → r₁ ≡ r₂
covers_nodes slices ks taus h₁ h₂ = one_answer h₁ h₂

-- lent::diagnose
pub diagnose : (slices : List SviSlice) (policy : ShortExpiryPolicy) (ks : List Float) (taus : List Float) (config : DiagnosticsConfig) (room : List Float) {r₁ r₂ : Result SurfaceDiagnostics Refusal} {room-exit₁ room-exit₂ : List Float} → ((numbered r₁ ≡ (diagnose_of (run_of slices) policy ks taus config room).answer) × (room-exit₁ ≡ (diagnose_of (run_of slices) policy ks taus config room).room)) → ((numbered r₂ ≡ (diagnose_of (run_of slices) policy ks taus config room).answer) × (room-exit₂ ≡ (diagnose_of (run_of slices) policy ks taus config room).room)) → (r₁ ≡ r₂) × (room-exit₁ ≡ room-exit₂)
diagnose slices policy ks taus config room {r₁} {r₂} {room-exit₁} {room-exit₂} h₁ h₂ = (one_answer h₁.0 h₂.0, cc)
