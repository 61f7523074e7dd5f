-- No second answer meets the contract of a public function of crate `outcome`. Written by tools/settle from the contracts. Assumes nothing.
use Rattle.house.specs.File.{records_of}
use Rattle.house.specs.Repeats.{kept}
use Rattle.house.specs.Taken.{kept_of}
use Rattle.laws.specs.Room.{written}
use Rattle.outcome.proofs.Outcomes.{one_outcome}
use Rattle.outcome.specs.Outcome.{bytes_outcome, capped_for, file_outcome, outcome_in, residuals_for, settings_of}
use Rattle.outcome.specs.declared.Outcome.{Outcome}
use Rattle.records.specs.declared.FitConfig.{FitConfig}
use Rattle.std.specs.Prelude.{Float, List, length, ℕ, ◌≡◌}

-- outcome::of_file
pub of_file : (file : List ℕ) (residuals : List Float) (capped : List ℕ) {r₁ r₂ : Outcome} {residuals-exit₁ residuals-exit₂ : List Float} {capped-exit₁ capped-exit₂ : List ℕ} → ((outcome_in r₁ ≡ file_outcome file (length residuals) (length capped)) × (residuals-exit₁ ≡ written (outcome_in r₁).fit.number (residuals_for (outcome_in r₁).fit.slice (kept_of file)) residuals) × (capped-exit₁ ≡ written (outcome_in r₁).fit.number (capped_for (settings_of file) (kept_of file)) capped)) → ((outcome_in r₂ ≡ file_outcome file (length residuals) (length capped)) × (residuals-exit₂ ≡ written (outcome_in r₂).fit.number (residuals_for (outcome_in r₂).fit.slice (kept_of file)) residuals) × (capped-exit₂ ≡ written (outcome_in r₂).fit.number (capped_for (settings_of file) (kept_of file)) capped)) → (r₁ ≡ r₂) × (residuals-exit₁ ≡ residuals-exit₂) × (capped-exit₁ ≡ capped-exit₂)
of_file file residuals capped {r₁} {r₂} {residuals-exit₁} {residuals-exit₂} {capped-exit₁} {capped-exit₂} h₁ h₂ = (one_outcome h₁.0 h₂.0, cc, cc)

-- outcome::of_quotes
pub of_quotes : (tau : Float) (config : FitConfig) (quotes : List ℕ) (residuals : List Float) (capped : List ℕ) {r₁ r₂ : Outcome} {residuals-exit₁ residuals-exit₂ : List Float} {capped-exit₁ capped-exit₂ : List ℕ} → ((outcome_in r₁ ≡ bytes_outcome tau config quotes (length residuals) (length capped)) × (residuals-exit₁ ≡ written (outcome_in r₁).fit.number (residuals_for (outcome_in r₁).fit.slice (kept (records_of quotes))) residuals) × (capped-exit₁ ≡ written (outcome_in r₁).fit.number (capped_for config (kept (records_of quotes))) capped)) → ((outcome_in r₂ ≡ bytes_outcome tau config quotes (length residuals) (length capped)) × (residuals-exit₂ ≡ written (outcome_in r₂).fit.number (residuals_for (outcome_in r₂).fit.slice (kept (records_of quotes))) residuals) × (capped-exit₂ ≡ written (outcome_in r₂).fit.number (capped_for config (kept (records_of quotes))) capped)) → (r₁ ≡ r₂) × (residuals-exit₁ ≡ residuals-exit₂) × (capped-exit₁ ≡ capped-exit₂)
of_quotes tau config quotes residuals capped {r₁} {r₂} {residuals-exit₁} {residuals-exit₂} {capped-exit₁} {capped-exit₂} h₁ h₂ = (one_outcome h₁.0 h₂.0, cc, cc)
