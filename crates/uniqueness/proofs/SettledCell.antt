-- No second answer meets the contract of a public function of crate `cell`. Written by tools/settle from the contracts. Assumes nothing.
use Rattle.cell.specs.Cell.{in_range, inner_of}
use Rattle.cell.specs.Lent.{hs_on, inner_on, ys_on}
use Rattle.cell.specs.declared.Cell.{Cell}
use Rattle.cell.specs.declared.Limits.{Limits}
use Rattle.laws.proofs.Choices.{settled}
use Rattle.laws.specs.Choice.{unless}
use Rattle.std.specs.Prelude.{Float, List, ◌≡◌}

-- cell::inner_on
pub inner_on_lem : (ks : List Float) (ws : List Float) (weights : List Float) (l : Limits) (m : Float) (sigma : Float) (ys : List Float) (hs : List Float) {r₁ r₂ : Cell} {ys-exit₁ ys-exit₂ : List Float} {hs-exit₁ hs-exit₂ : List Float} → ((r₁ ≡ inner_on ks ws weights l m sigma ys hs) × (ys-exit₁ ≡ unless (in_range ks ws weights) ys (ys_on ks m sigma ys)) × (hs-exit₁ ≡ unless (in_range ks ws weights) hs (hs_on ks m sigma ys hs))) → ((r₂ ≡ inner_on ks ws weights l m sigma ys hs) × (ys-exit₂ ≡ unless (in_range ks ws weights) ys (ys_on ks m sigma ys)) × (hs-exit₂ ≡ unless (in_range ks ws weights) hs (hs_on ks m sigma ys hs))) → (r₁ ≡ r₂) × (ys-exit₁ ≡ ys-exit₂) × (hs-exit₁ ≡ hs-exit₂)
inner_on_lem ks ws weights l m sigma ys hs {r₁} {r₂} {ys-exit₁} {ys-exit₂} {hs-exit₁} {hs-exit₂} h₁ h₂ = (cc, cc, cc)

-- cell::inner
pub inner : (ks : List Float) (ws : List Float) (weights : List Float) (l : Limits) (m : Float) (sigma : Float) {r₁ r₂ : Cell} → (r₁ ≡ inner_of ks ws weights l m sigma) → (r₂ ≡ inner_of ks ws weights l m sigma) → r₁ ≡ r₂
inner ks ws weights l m sigma h₁ h₂ = settled h₁ h₂
