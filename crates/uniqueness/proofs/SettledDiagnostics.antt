-- No second answer meets the contract of a public function of crate `diagnostics`. Written by tools/settle from the contracts. Assumes nothing.
use Rattle.diagnostics.specs.Diagnostics.{default_config, diagnose_of, report_clean}
use Rattle.diagnostics.specs.Tally.{is_clean, no_check, recorded_of}
use Rattle.diagnostics.specs.Walk.{butterfly_of, seen_on}
use Rattle.diagnostics.specs.declared.points.Reading.{Reading}
use Rattle.diagnostics.specs.declared.report.DiagnosticsConfig.{DiagnosticsConfig}
use Rattle.diagnostics.specs.declared.report.SurfaceDiagnostics.{SurfaceDiagnostics}
use Rattle.diagnostics.specs.declared.tally.Check.{Check}
use Rattle.diagnostics.specs.declared.tally.DiagnosticPoint.{DiagnosticPoint}
use Rattle.laws.proofs.Choices.{settled}
use Rattle.refusals.proofs.Numbers.{one_answer}
use Rattle.refusals.specs.Numbers.{numbered}
use Rattle.refusals.specs.declared.Refusal.{Refusal}
use Rattle.std.specs.Prelude.{Bool, Float, List, Result, ◌≡◌}
use Rattle.surface.specs.declared.types.Nodes.{Nodes}
use Rattle.surface.specs.declared.types.Run.{Run}
use Rattle.surface.specs.declared.types.ShortExpiryPolicy.{ShortExpiryPolicy}

-- diagnostics::butterfly_g
pub butterfly_g : (k : Float) (w : Float) (w_k : Float) (w_kk : Float) {r₁ r₂ : Float} → (r₁ ≡ butterfly_of k w w_k w_kk) → (r₂ ≡ butterfly_of k w w_k w_kk) → r₁ ≡ r₂
butterfly_g k w w_k w_kk h₁ h₂ = settled h₁ h₂

-- diagnostics::seen_at
pub seen_at : (run : Run) (nodes : Nodes) (policy : ShortExpiryPolicy) (k : Float) (tau : Float) {r₁ r₂ : Result Reading Refusal} → (numbered r₁ ≡ seen_on run.recs nodes.taus nodes.tols nodes.count policy k tau) → (numbered r₂ ≡ seen_on run.recs nodes.taus nodes.tols nodes.count policy k tau) → r₁ ≡ r₂
seen_at run nodes policy k tau h₁ h₂ = one_answer h₁ h₂

-- diagnostics::DiagnosticsConfig::default
pub DiagnosticsConfig-default : {r₁ r₂ : DiagnosticsConfig} → (r₁ ≡ default_config) → (r₂ ≡ default_config) → r₁ ≡ r₂
DiagnosticsConfig-default h₁ h₂ = settled h₁ h₂

-- diagnostics::SurfaceDiagnostics::is_clean
pub SurfaceDiagnostics-is_clean : (self : SurfaceDiagnostics) {r₁ r₂ : Bool} → (r₁ ≡ report_clean self) → (r₂ ≡ report_clean self) → r₁ ≡ r₂
SurfaceDiagnostics-is_clean self h₁ h₂ = settled h₁ h₂

-- diagnostics::diagnose_run
pub diagnose_run : (run : Run) (policy : ShortExpiryPolicy) (ks : List Float) (axis : List Float) (tol : DiagnosticsConfig) (room : List Float) {r₁ r₂ : Result SurfaceDiagnostics Refusal} {room-exit₁ room-exit₂ : List Float} → ((numbered r₁ ≡ (diagnose_of run policy ks axis tol room).answer) × (room-exit₁ ≡ (diagnose_of run policy ks axis tol room).room)) → ((numbered r₂ ≡ (diagnose_of run policy ks axis tol room).answer) × (room-exit₂ ≡ (diagnose_of run policy ks axis tol room).room)) → (r₁ ≡ r₂) × (room-exit₁ ≡ room-exit₂)
diagnose_run run policy ks axis tol room {r₁} {r₂} {room-exit₁} {room-exit₂} h₁ h₂ = (one_answer h₁.0 h₂.0, cc)

-- diagnostics::Check::default
pub Check-default : {r₁ r₂ : Check} → (r₁ ≡ no_check) → (r₂ ≡ no_check) → r₁ ≡ r₂
Check-default h₁ h₂ = settled h₁ h₂

-- diagnostics::Check::recorded
pub Check-recorded : (self : Check) (point : DiagnosticPoint) (tolerance : Float) {r₁ r₂ : Check} → (r₁ ≡ recorded_of self point tolerance) → (r₂ ≡ recorded_of self point tolerance) → r₁ ≡ r₂
Check-recorded self point tolerance h₁ h₂ = settled h₁ h₂

-- diagnostics::Check::record
pub Check-record : (self : Check) (point : DiagnosticPoint) (tolerance : Float) {self-exit₁ self-exit₂ : Check} → (self-exit₁ ≡ recorded_of self point tolerance) → (self-exit₂ ≡ recorded_of self point tolerance) → self-exit₁ ≡ self-exit₂
Check-record self point tolerance {self-exit₁} {self-exit₂} h₁ h₂ = cc

-- diagnostics::Check::is_clean
pub Check-is_clean : (self : Check) {r₁ r₂ : Bool} → (r₁ ≡ is_clean self) → (r₂ ≡ is_clean self) → r₁ ≡ r₂
Check-is_clean self h₁ h₂ = settled h₁ h₂
