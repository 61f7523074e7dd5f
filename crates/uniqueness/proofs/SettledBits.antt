-- No second answer meets the contract of a public function of crate `bits`. Written by tools/settle from the contracts. Assumes nothing.
use Rattle.bits.specs.Bytes.{u32_at, u64_at}
use Rattle.laws.proofs.Choices.{settled}
use Rattle.laws.specs.Floats.{abs_of, finite, max_of, min_of, positive, unsigned_of}
use Rattle.std.specs.Float.{binary64}
use Rattle.std.specs.Float.Ieee.{lt, of_bits, to_bits}
use Rattle.std.specs.Prelude.{Bool, Float, List, cond, ℕ, ◌<◌, ◌≡◌}

-- bits::pick
pub pick : {T : Type 0} (c : Bool) (a : T) (b : T) {r₁ r₂ : T} → (r₁ ≡ cond c a b) → (r₂ ≡ cond c a b) → r₁ ≡ r₂
pick c a b h₁ h₂ = settled h₁ h₂

-- bits::unsigned
pub unsigned : (x : Float) {r₁ r₂ : Float} → (r₁ ≡ unsigned_of x) → (r₂ ≡ unsigned_of x) → r₁ ≡ r₂
unsigned x h₁ h₂ = settled h₁ h₂

-- bits::magnitude
pub magnitude : (x : Float) {r₁ r₂ : Float} → (r₁ ≡ abs_of x) → (r₂ ≡ abs_of x) → r₁ ≡ r₂
magnitude x h₁ h₂ = settled h₁ h₂

-- bits::is_finite
pub is_finite : (x : Float) {r₁ r₂ : Bool} → (r₁ ≡ finite x) → (r₂ ≡ finite x) → r₁ ≡ r₂
is_finite x h₁ h₂ = settled h₁ h₂

-- bits::is_positive
pub is_positive : (x : Float) {r₁ r₂ : Bool} → (r₁ ≡ positive x) → (r₂ ≡ positive x) → r₁ ≡ r₂
is_positive x h₁ h₂ = settled h₁ h₂

-- bits::min
pub min : (a : Float) (b : Float) {r₁ r₂ : Float} → (r₁ ≡ min_of a b) → (r₂ ≡ min_of a b) → r₁ ≡ r₂
min a b h₁ h₂ = settled h₁ h₂

-- bits::max
pub max : (a : Float) (b : Float) {r₁ r₂ : Float} → (r₁ ≡ max_of a b) → (r₂ ≡ max_of a b) → r₁ ≡ r₂
max a b h₁ h₂ = settled h₁ h₂

-- bits::larger
pub larger : (a : Float) (b : Float) {r₁ r₂ : Float} → (r₁ ≡ cond (lt a b) b a) → (r₂ ≡ cond (lt a b) b a) → r₁ ≡ r₂
larger a b h₁ h₂ = settled h₁ h₂

-- bits::bits_of
pub bits_of : (x : Float) {r₁ r₂ : ℕ} → (r₁ ≡ to_bits binary64 x) → (r₂ ≡ to_bits binary64 x) → r₁ ≡ r₂
bits_of x h₁ h₂ = settled h₁ h₂

-- bits::f64_of
pub f64_of : (bits : ℕ) {r₁ r₂ : Float} → (r₁ ≡ of_bits binary64 bits) → (r₂ ≡ of_bits binary64 bits) → r₁ ≡ r₂
f64_of bits h₁ h₂ = settled h₁ h₂

-- bits::u32_at
pub u32_at_lem : (s : List ℕ) (at : ℕ) {r₁ r₂ : ℕ} → ((r₁ ≡ u32_at s at) × (r₁ < 4294967296)) → ((r₂ ≡ u32_at s at) × (r₂ < 4294967296)) → r₁ ≡ r₂
u32_at_lem s at {r₁} {r₂} h₁ h₂ = cc

-- bits::u64_at
pub u64_at_lem : (s : List ℕ) (at : ℕ) {r₁ r₂ : ℕ} → (r₁ ≡ u64_at s at) → (r₂ ≡ u64_at s at) → r₁ ≡ r₂
u64_at_lem s at h₁ h₂ = settled h₁ h₂
