-- No second answer meets the contract of a public function of crate `polytope`. Written by tools/settle from the contracts. Assumes nothing.
use Rattle.laws.proofs.Choices.{settled}
use Rattle.polytope.specs.Polytope.{bounds_of, dot_of, feasible_of, rows_of, spread_of}
use Rattle.std.specs.Prelude.{Bool, Float, List, ℕ, ◌≡◌}

-- polytope::rows
pub rows : {r₁ r₂ : List Float} → (r₁ ≡ rows_of) → (r₂ ≡ rows_of) → r₁ ≡ r₂
rows h₁ h₂ = settled h₁ h₂

-- polytope::bounds
pub bounds : (sigma : Float) (a_min : Float) (a_max : Float) {r₁ r₂ : List Float} → (r₁ ≡ bounds_of sigma a_min a_max) → (r₂ ≡ bounds_of sigma a_min a_max) → r₁ ≡ r₂
bounds sigma a_min a_max h₁ h₂ = settled h₁ h₂

-- polytope::spread
pub spread : (h : List Float) {r₁ r₂ : Float} → (r₁ ≡ spread_of h) → (r₂ ≡ spread_of h) → r₁ ≡ r₂
spread h h₁ h₂ = settled h₁ h₂

-- polytope::dot
pub dot : (g : List Float) (x : List Float) (c : ℕ) {r₁ r₂ : Float} → (r₁ ≡ dot_of g x c) → (r₂ ≡ dot_of g x c) → r₁ ≡ r₂
dot g x c h₁ h₂ = settled h₁ h₂

-- polytope::feasible
pub feasible : (h : List Float) (x : List Float) (slack : Float) {r₁ r₂ : Bool} → (r₁ ≡ feasible_of rows_of h 7 slack x) → (r₂ ≡ feasible_of rows_of h 7 slack x) → r₁ ≡ r₂
feasible h x slack h₁ h₂ = settled h₁ h₂
