-- No second answer meets the contract of a public function of crate `solver`. Written by tools/settle from the contracts. Assumes nothing.
use Rattle.laws.proofs.Choices.{settled}
use Rattle.solver.specs.Solve.{solve_of, under_of}
use Rattle.solver.specs.declared.Solved.{Solved}
use Rattle.std.specs.Prelude.{Float, List, ℕ, ◌≡◌}

-- solver::solve_under
pub solve_under : (m : List Float) (rhs : List Float) (n : ℕ) (limit : Float) {r₁ r₂ : Solved} → (r₁ ≡ under_of n m rhs limit) → (r₂ ≡ under_of n m rhs limit) → r₁ ≡ r₂
solve_under m rhs n limit h₁ h₂ = settled h₁ h₂

-- solver::solve
pub solve : (m : List Float) (rhs : List Float) (n : ℕ) (tol : Float) {r₁ r₂ : Solved} → (r₁ ≡ solve_of n m rhs tol) → (r₂ ≡ solve_of n m rhs tol) → r₁ ≡ r₂
solve m rhs n tol h₁ h₂ = settled h₁ h₂
