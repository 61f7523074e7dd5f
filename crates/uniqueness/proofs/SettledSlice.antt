-- No second answer meets the contract of a public function of crate `slice`. Written by tools/settle from the contracts. Assumes nothing.
use Rattle.laws.proofs.Choices.{settled}
use Rattle.refusals.proofs.Numbers.{one_answer, one_check}
use Rattle.refusals.specs.Numbers.{number_in, numbered}
use Rattle.refusals.specs.declared.Refusal.{Refusal}
use Rattle.slice.specs.Slice.{eval_of, eval_raw, holds_k, lee_of, lee_slope_of, lowest_of, made_of, minimum_of, number_of, ranged_of}
use Rattle.slice.specs.declared.KRange.{KRange}
use Rattle.slice.specs.declared.SviSlice.{SviSlice}
use Rattle.slice.specs.declared.Values.{Values}
use Rattle.std.specs.Prelude.{Bool, Float, Result, ⊤, ◌≡◌}

-- slice::KRange::new
pub KRange-new : (lo : Float) (hi : Float) {r₁ r₂ : Result KRange Refusal} → (numbered r₁ ≡ ranged_of lo hi) → (numbered r₂ ≡ ranged_of lo hi) → r₁ ≡ r₂
KRange-new lo hi h₁ h₂ = one_answer h₁ h₂

-- slice::KRange::contains
pub KRange-contains : (self : KRange) (k : Float) {r₁ r₂ : Bool} → (r₁ ≡ holds_k self k) → (r₂ ≡ holds_k self k) → r₁ ≡ r₂
KRange-contains self k h₁ h₂ = settled h₁ h₂

-- slice::lowest
pub lowest : (s : SviSlice) {r₁ r₂ : Float} → (r₁ ≡ lowest_of s) → (r₂ ≡ lowest_of s) → r₁ ≡ r₂
lowest s h₁ h₂ = settled h₁ h₂

-- slice::lee
pub lee : (s : SviSlice) {r₁ r₂ : Float} → (r₁ ≡ lee_of s) → (r₂ ≡ lee_of s) → r₁ ≡ r₂
lee s h₁ h₂ = settled h₁ h₂

-- slice::check
pub check : (s : SviSlice) {r₁ r₂ : Result ⊤ Refusal} → (number_in r₁ ≡ number_of s) → (number_in r₂ ≡ number_of s) → r₁ ≡ r₂
check s h₁ h₂ = one_check h₁ h₂

-- slice::eval_tested
pub eval_tested : (s : SviSlice) (k : Float) {r₁ r₂ : Result Values Refusal} → (numbered r₁ ≡ eval_raw s k) → (numbered r₂ ≡ eval_raw s k) → r₁ ≡ r₂
eval_tested s k h₁ h₂ = one_answer h₁ h₂

-- slice::SviSlice::new
pub SviSlice-new : (tau : Float) (a : Float) (b : Float) (rho : Float) (m : Float) (sigma : Float) (k_range : KRange) {r₁ r₂ : Result SviSlice Refusal} → (numbered r₁ ≡ made_of tau a b rho m sigma k_range) → (numbered r₂ ≡ made_of tau a b rho m sigma k_range) → r₁ ≡ r₂
SviSlice-new tau a b rho m sigma k_range h₁ h₂ = one_answer h₁ h₂

-- slice::SviSlice::minimum
pub SviSlice-minimum : (self : SviSlice) {r₁ r₂ : Result Float Refusal} → (numbered r₁ ≡ minimum_of self) → (numbered r₂ ≡ minimum_of self) → r₁ ≡ r₂
SviSlice-minimum self h₁ h₂ = one_answer h₁ h₂

-- slice::SviSlice::lee_slope
pub SviSlice-lee_slope : (self : SviSlice) {r₁ r₂ : Result Float Refusal} → (numbered r₁ ≡ lee_slope_of self) → (numbered r₂ ≡ lee_slope_of self) → r₁ ≡ r₂
SviSlice-lee_slope self h₁ h₂ = one_answer h₁ h₂

-- slice::SviSlice::eval
pub SviSlice-eval : (self : SviSlice) (k : Float) {r₁ r₂ : Result Values Refusal} → (numbered r₁ ≡ eval_of self k) → (numbered r₂ ≡ eval_of self k) → r₁ ≡ r₂
SviSlice-eval self k h₁ h₂ = one_answer h₁ h₂
