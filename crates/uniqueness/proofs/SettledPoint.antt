-- No second answer meets the contract of a public function of crate `point`. Written by tools/settle from the contracts. Assumes nothing.
use Rattle.point.specs.Point.{point_number, total_of}
use Rattle.point.specs.declared.TotalVariance.{TotalVariance}
use Rattle.refusals.proofs.Numbers.{one_answer, one_check}
use Rattle.refusals.specs.Numbers.{number_in, numbered}
use Rattle.refusals.specs.declared.Refusal.{Refusal}
use Rattle.std.specs.Prelude.{Float, Result, ⊤, ◌≡◌}

-- point::check_point
pub check_point : (k : Float) (tau : Float) {r₁ r₂ : Result ⊤ Refusal} → (number_in r₁ ≡ point_number k tau) → (number_in r₂ ≡ point_number k tau) → r₁ ≡ r₂
check_point k tau h₁ h₂ = one_check h₁ h₂

-- point::TotalVariance::new
pub TotalVariance-new : (w : Float) (w_k : Float) (w_kk : Float) (w_tau : Float) {r₁ r₂ : Result TotalVariance Refusal} → (numbered r₁ ≡ total_of w w_k w_kk w_tau) → (numbered r₂ ≡ total_of w w_k w_kk w_tau) → r₁ ≡ r₂
TotalVariance-new w w_k w_kk w_tau h₁ h₂ = one_answer h₁ h₂
