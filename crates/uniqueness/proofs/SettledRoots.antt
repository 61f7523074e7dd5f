-- No second answer meets the contract of a public function of crate `roots`. Written by tools/settle from the contracts. Assumes nothing.
use Rattle.laws.proofs.Choices.{settled}
use Rattle.roots.specs.Hypot.{hypot_of, with_one_of}
use Rattle.roots.specs.Root.{root_of}
use Rattle.std.specs.Prelude.{Float, List, ℕ, ◌≡◌}

-- roots::with_one
pub with_one : (ys : List Float) (n : ℕ) (hs : List Float) {hs-exit₁ hs-exit₂ : List Float} → (hs-exit₁ ≡ with_one_of ys n hs) → (hs-exit₂ ≡ with_one_of ys n hs) → hs-exit₁ ≡ hs-exit₂
with_one ys n hs {hs-exit₁} {hs-exit₂} h₁ h₂ = cc

-- roots::sqrt
pub sqrt : (x : Float) {r₁ r₂ : Float} → (r₁ ≡ root_of x) → (r₂ ≡ root_of x) → r₁ ≡ r₂
sqrt x h₁ h₂ = settled h₁ h₂

-- roots::hypot
pub hypot : (x : Float) (y : Float) {r₁ r₂ : Float} → (r₁ ≡ hypot_of x y) → (r₂ ≡ hypot_of x y) → r₁ ≡ r₂
hypot x y h₁ h₂ = settled h₁ h₂
