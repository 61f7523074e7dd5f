-- No second answer meets the contract of a public function of crate `calibrate`. Written by tools/settle from the contracts. Assumes nothing.
use Rattle.calibrate.specs.Fit.{Fitted}
use Rattle.records.proofs.Fits.{one_fit}
use Rattle.records.specs.Answer.{answer_in}
use Rattle.records.specs.declared.FitConfig.{FitConfig}
use Rattle.records.specs.declared.FitFailure.{FitFailure}
use Rattle.records.specs.declared.SliceFit.{SliceFit}
use Rattle.std.specs.Prelude.{Float, List, Result, ℕ, ◌≡◌}

-- calibrate::fit_slice
pub fit_slice : (tau : Float) (config : FitConfig) (k : List Float) (w : List Float) (weight : List Float) (residuals : List Float) (capped : List ℕ) {r₁ r₂ : Result SliceFit FitFailure} {residuals-exit₁ residuals-exit₂ : List Float} {capped-exit₁ capped-exit₂ : List ℕ} → (Fitted tau config k w weight residuals capped (answer_in r₁) residuals-exit₁ capped-exit₁) → (Fitted tau config k w weight residuals capped (answer_in r₂) residuals-exit₂ capped-exit₂) → (r₁ ≡ r₂) × (residuals-exit₁ ≡ residuals-exit₂) × (capped-exit₁ ≡ capped-exit₂)
fit_slice tau config k w weight residuals capped {r₁} {r₂} {residuals-exit₁} {residuals-exit₂} {capped-exit₁} {capped-exit₂} h₁ h₂ = (one_fit h₁.answer h₂.answer, cc, cc)
