-- No second answer meets the contract of a public function of crate `refusals`. Written by tools/settle from the contracts. Assumes nothing.
use Rattle.laws.proofs.Choices.{settled}
use Rattle.refusals.specs.Numbers.{refusal_number}
use Rattle.refusals.specs.declared.Refusal.{Refusal}
use Rattle.std.specs.Prelude.{ℕ, ◌≡◌}

-- refusals::Refusal::number
pub Refusal-number : (self : Refusal) {r₁ r₂ : ℕ} → (r₁ ≡ refusal_number self) → (r₂ ≡ refusal_number self) → r₁ ≡ r₂
Refusal-number self h₁ h₂ = settled h₁ h₂
