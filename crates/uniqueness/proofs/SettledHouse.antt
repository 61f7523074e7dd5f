-- No second answer meets the contract of a public function of crate `house`. Written by tools/settle from the contracts. Assumes nothing.
use Rattle.house.specs.Check.{k_of, w_of, weight_of}
use Rattle.house.specs.File.{config_of, house_of, records_of, tau_of}
use Rattle.house.specs.Taken.{intake_number, taken_of}
use Rattle.house.specs.declared.Layout.{Layout}
use Rattle.laws.proofs.Choices.{settled}
use Rattle.laws.specs.Room.{at_front}
use Rattle.records.specs.declared.FitConfig.{FitConfig}
use Rattle.refusals.proofs.Numbers.{one_check}
use Rattle.refusals.specs.Numbers.{number_in}
use Rattle.refusals.specs.declared.Refusal.{Refusal}
use Rattle.std.specs.Prelude.{Float, List, Option, Result, length, map, ℕ, ⊤, ◌≡◌}

-- house::house_of
pub house_of_lem : (s : List ℕ) {r₁ r₂ : Option Layout} → (r₁ ≡ house_of s) → (r₂ ≡ house_of s) → r₁ ≡ r₂
house_of_lem s h₁ h₂ = settled h₁ h₂

-- house::tau_of
pub tau_of_lem : (s : List ℕ) (settings : ℕ) {r₁ r₂ : Float} → (r₁ ≡ tau_of s settings) → (r₂ ≡ tau_of s settings) → r₁ ≡ r₂
tau_of_lem s settings h₁ h₂ = settled h₁ h₂

-- house::config_of
pub config_of_lem : (s : List ℕ) (settings : ℕ) {r₁ r₂ : FitConfig} → (r₁ ≡ config_of s settings) → (r₂ ≡ config_of s settings) → r₁ ≡ r₂
config_of_lem s settings h₁ h₂ = settled h₁ h₂

-- house::check_intake
pub check_intake : (s : List ℕ) (config : FitConfig) (room : ℕ) (slots : ℕ) {r₁ r₂ : Result ⊤ Refusal} → (number_in r₁ ≡ intake_number config (records_of s) room slots) → (number_in r₂ ≡ intake_number config (records_of s) room slots) → r₁ ≡ r₂
check_intake s config room slots h₁ h₂ = one_check h₁ h₂

-- house::take
pub take : (s : List ℕ) (k : List Float) (w : List Float) (weight : List Float) {r₁ r₂ : ℕ} {k-exit₁ k-exit₂ : List Float} {w-exit₁ w-exit₂ : List Float} {weight-exit₁ weight-exit₂ : List Float} → ((r₁ ≡ length (taken_of (records_of s) (length k) (length w) (length weight))) × (k-exit₁ ≡ at_front (map k_of (taken_of (records_of s) (length k) (length w) (length weight))) k) × (w-exit₁ ≡ at_front (map w_of (taken_of (records_of s) (length k) (length w) (length weight))) w) × (weight-exit₁ ≡ at_front (map weight_of (taken_of (records_of s) (length k) (length w) (length weight))) weight)) → ((r₂ ≡ length (taken_of (records_of s) (length k) (length w) (length weight))) × (k-exit₂ ≡ at_front (map k_of (taken_of (records_of s) (length k) (length w) (length weight))) k) × (w-exit₂ ≡ at_front (map w_of (taken_of (records_of s) (length k) (length w) (length weight))) w) × (weight-exit₂ ≡ at_front (map weight_of (taken_of (records_of s) (length k) (length w) (length weight))) weight)) → (r₁ ≡ r₂) × (k-exit₁ ≡ k-exit₂) × (w-exit₁ ≡ w-exit₂) × (weight-exit₁ ≡ weight-exit₂)
take s k w weight {r₁} {r₂} {k-exit₁} {k-exit₂} {w-exit₁} {w-exit₂} {weight-exit₁} {weight-exit₂} h₁ h₂ = (cc, cc, cc, cc)
