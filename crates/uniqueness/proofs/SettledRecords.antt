-- No second answer meets the contract of a public function of crate `records`. Written by tools/settle from the contracts. Assumes nothing.
use Rattle.laws.proofs.Choices.{settled}
use Rattle.records.proofs.Fits.{one_failure}
use Rattle.records.specs.Answer.{answer_in, failure_answer, refused_after, refused_with}
use Rattle.records.specs.Observation.{observed_of, passes as passesOf}
use Rattle.records.specs.Settings.{defaults_of, settings_hold, sizes_hold}
use Rattle.records.specs.declared.Counts.{Counts}
use Rattle.records.specs.declared.FitAnswer.{FitAnswer}
use Rattle.records.specs.declared.FitConfig.{FitConfig}
use Rattle.records.specs.declared.FitFailure.{FitFailure}
use Rattle.records.specs.declared.SliceFit.{SliceFit}
use Rattle.records.specs.declared.SliceObservation.{SliceObservation}
use Rattle.refusals.proofs.Numbers.{one_answer}
use Rattle.refusals.specs.Numbers.{numbered, refusal_number}
use Rattle.refusals.specs.declared.Refusal.{Refusal}
use Rattle.std.specs.Prelude.{Bool, Float, Result, ℕ, ◌≡◌}

-- records::passes
pub passes : (k : Float) (w : Float) (weight : Float) {r₁ r₂ : Bool} → (r₁ ≡ passesOf k w weight) → (r₂ ≡ passesOf k w weight) → r₁ ≡ r₂
passes k w weight h₁ h₂ = settled h₁ h₂

-- records::SliceObservation::new
pub SliceObservation-new : (k : Float) (w : Float) (weight : Float) {r₁ r₂ : Result SliceObservation Refusal} → (numbered r₁ ≡ observed_of k w weight) → (numbered r₂ ≡ observed_of k w weight) → r₁ ≡ r₂
SliceObservation-new k w weight h₁ h₂ = one_answer h₁ h₂

-- records::FitConfig::defaults
pub FitConfig-defaults : {r₁ r₂ : FitConfig} → (r₁ ≡ defaults_of) → (r₂ ≡ defaults_of) → r₁ ≡ r₂
FitConfig-defaults h₁ h₂ = settled h₁ h₂

-- records::FitConfig::validate
pub FitConfig-validate : (self : FitConfig) {r₁ r₂ : Bool} → (r₁ ≡ settings_hold self) → (r₂ ≡ settings_hold self) → r₁ ≡ r₂
FitConfig-validate self h₁ h₂ = settled h₁ h₂

-- records::sizes_hold
pub sizes_hold_lem : (n : ℕ) (config : FitConfig) {r₁ r₂ : Bool} → (r₁ ≡ sizes_hold n config) → (r₂ ≡ sizes_hold n config) → r₁ ≡ r₂
sizes_hold_lem n config h₁ h₂ = settled h₁ h₂

-- records::FitFailure::after
pub FitFailure-after : (why : Refusal) (counts : Counts) {r₁ r₂ : FitFailure} → (failure_answer r₁ ≡ refused_after (refusal_number why) counts) → (failure_answer r₂ ≡ refused_after (refusal_number why) counts) → r₁ ≡ r₂
FitFailure-after why counts h₁ h₂ = one_failure h₁ h₂

-- records::refusal
pub refusal : (number : ℕ) (observed : ℕ) (required : ℕ) (rmse : Float) (max : Float) (counts : Counts) {r₁ r₂ : FitAnswer} → (r₁ ≡ refused_with number observed required rmse max counts) → (r₂ ≡ refused_with number observed required rmse max counts) → r₁ ≡ r₂
refusal number observed required rmse max counts h₁ h₂ = settled h₁ h₂

-- records::told
pub told : (fit : Result SliceFit FitFailure) {r₁ r₂ : FitAnswer} → (r₁ ≡ answer_in fit) → (r₂ ≡ answer_in fit) → r₁ ≡ r₂
told fit h₁ h₂ = settled h₁ h₂
