-- No second answer meets the contract of a public function of crate `judge`. Written by tools/settle from the contracts. Assumes nothing.
use Rattle.judge.specs.Judge.{highest_of, matched_sums, params_hold, residual_at, rmse_holds, rmse_of}
use Rattle.judge.specs.declared.Residual.{Residual}
use Rattle.judge.specs.declared.Sums.{Sums}
use Rattle.laws.proofs.Choices.{settled}
use Rattle.records.specs.declared.FitConfig.{FitConfig}
use Rattle.slice.specs.declared.SviSlice.{SviSlice}
use Rattle.std.specs.Prelude.{Bool, Float, List, ℕ, ◌≡◌}

-- judge::highest
pub highest : (w : List Float) (a_min : Float) {r₁ r₂ : Float} → (r₁ ≡ highest_of w a_min) → (r₂ ≡ highest_of w a_min) → r₁ ≡ r₂
highest w a_min h₁ h₂ = settled h₁ h₂

-- judge::residual_at
pub residual_at_lem : (s : SviSlice) (k : Float) (w : Float) {r₁ r₂ : Residual} → (r₁ ≡ residual_at s k w) → (r₂ ≡ residual_at s k w) → r₁ ≡ r₂
residual_at_lem s k w h₁ h₂ = settled h₁ h₂

-- judge::sums_of
pub sums_of : (s : SviSlice) (k : List Float) (w : List Float) (weights : List Float) {r₁ r₂ : Sums} → (r₁ ≡ matched_sums s k w weights) → (r₂ ≡ matched_sums s k w weights) → r₁ ≡ r₂
sums_of s k w weights h₁ h₂ = settled h₁ h₂

-- judge::params_hold
pub params_hold_lem : (config : FitConfig) (a_max : Float) (objective : Float) (t : Sums) {r₁ r₂ : Bool} → (r₁ ≡ params_hold config a_max objective t) → (r₂ ≡ params_hold config a_max objective t) → r₁ ≡ r₂
params_hold_lem config a_max objective t h₁ h₂ = settled h₁ h₂

-- judge::rmse_of
pub rmse_of_lem : (t : Sums) (n : ℕ) {r₁ r₂ : Float} → (r₁ ≡ rmse_of t n) → (r₂ ≡ rmse_of t n) → r₁ ≡ r₂
rmse_of_lem t n h₁ h₂ = settled h₁ h₂

-- judge::rmse_holds
pub rmse_holds_lem : (config : FitConfig) (rmse : Float) {r₁ r₂ : Bool} → (r₁ ≡ rmse_holds config rmse) → (r₂ ≡ rmse_holds config rmse) → r₁ ≡ r₂
rmse_holds_lem config rmse h₁ h₂ = settled h₁ h₂
