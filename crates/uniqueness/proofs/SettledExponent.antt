-- No second answer meets the contract of a public function of crate `exponent`. Written by tools/settle from the contracts. Assumes nothing.
use Rattle.exponent.specs.Exp.{exp_of}
use Rattle.exponent.specs.Ln.{ln_of}
use Rattle.laws.proofs.Choices.{settled}
use Rattle.std.specs.Prelude.{Float, ◌≡◌}

-- exponent::exp
pub exp : (x : Float) {r₁ r₂ : Float} → (r₁ ≡ exp_of x) → (r₂ ≡ exp_of x) → r₁ ≡ r₂
exp x h₁ h₂ = settled h₁ h₂

-- exponent::ln
pub ln : (x : Float) {r₁ r₂ : Float} → (r₁ ≡ ln_of x) → (r₂ ≡ ln_of x) → r₁ ≡ r₂
ln x h₁ h₂ = settled h₁ h₂
