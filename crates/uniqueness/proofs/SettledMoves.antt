-- No second answer meets the contract of a public function of crate `moves`. Written by tools/settle from the contracts. Assumes nothing.
use Rattle.laws.proofs.Choices.{settled}
use Rattle.moves.specs.Axis.{linspace_at}
use Rattle.moves.specs.Moves.{goes_on, moved_of, was_refused}
use Rattle.moves.specs.declared.PassBest.{PassBest}
use Rattle.moves.specs.declared.Plan.{Plan}
use Rattle.moves.specs.declared.Search.{Search}
use Rattle.moves.specs.declared.Stage.{Stage}
use Rattle.records.specs.declared.Counts.{Counts}
use Rattle.std.specs.Prelude.{Bool, Float, ℕ, ◌≡◌}

-- moves::Stage::goes_on
pub Stage-goes_on : (self : Stage) {r₁ r₂ : Bool} → (r₁ ≡ goes_on self) → (r₂ ≡ goes_on self) → r₁ ≡ r₂
Stage-goes_on self h₁ h₂ = settled h₁ h₂

-- moves::Stage::was_refused
pub Stage-was_refused : (self : Stage) {r₁ r₂ : Bool} → (r₁ ≡ was_refused self) → (r₂ ≡ was_refused self) → r₁ ≡ r₂
Stage-was_refused self h₁ h₂ = settled h₁ h₂

-- moves::moved
pub moved : (p : Plan) (s : Search) (n : Counts) (b : PassBest) {r₁ r₂ : Search} → (r₁ ≡ moved_of p s n b) → (r₂ ≡ moved_of p s n b) → r₁ ≡ r₂
moved p s n b h₁ h₂ = settled h₁ h₂

-- moves::linspace_at
pub linspace_at_lem : (lo : Float) (hi : Float) (n : ℕ) (i : ℕ) {r₁ r₂ : Float} → (r₁ ≡ linspace_at lo hi n i) → (r₂ ≡ linspace_at lo hi n i) → r₁ ≡ r₂
linspace_at_lem lo hi n i h₁ h₂ = settled h₁ h₂
