-- No second answer meets the contract of a public function of crate `entry`. Written by tools/settle from the contracts. Assumes nothing.
use Rattle.entry.specs.Entry.{checks_number, range_of}
use Rattle.laws.proofs.Choices.{settled}
use Rattle.records.specs.declared.FitConfig.{FitConfig}
use Rattle.refusals.proofs.Numbers.{one_check}
use Rattle.refusals.specs.Numbers.{number_in}
use Rattle.refusals.specs.declared.Refusal.{Refusal}
use Rattle.slice.specs.declared.KRange.{KRange}
use Rattle.std.specs.Prelude.{Float, List, Result, ℕ, ⊤, ◌≡◌}

-- entry::range_of
pub range_of_lem : (k : List Float) {r₁ r₂ : KRange} → (r₁ ≡ range_of k) → (r₂ ≡ range_of k) → r₁ ≡ r₂
range_of_lem k h₁ h₂ = settled h₁ h₂

-- entry::checks
pub checks : (tau : Float) (config : FitConfig) (k : List Float) (w : List Float) (weight : List Float) (room : ℕ) (slots : ℕ) {r₁ r₂ : Result ⊤ Refusal} → (number_in r₁ ≡ checks_number tau config k w weight room slots) → (number_in r₂ ≡ checks_number tau config k w weight room slots) → r₁ ≡ r₂
checks tau config k w weight room slots h₁ h₂ = one_check h₁ h₂
