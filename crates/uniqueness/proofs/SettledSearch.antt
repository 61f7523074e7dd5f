-- No second answer meets the contract of a public function of crate `search`. Written by tools/settle from the contracts. Assumes nothing.
use Rattle.cell.specs.declared.Limits.{Limits}
use Rattle.laws.proofs.Choices.{settled}
use Rattle.moves.specs.declared.Plan.{Plan}
use Rattle.moves.specs.declared.Search.{Search}
use Rattle.search.specs.Run.{planned_search}
use Rattle.std.specs.Prelude.{Float, List, ◌≡◌}

-- search::run
pub run : (ks : List Float) (ws : List Float) (weights : List Float) (l : Limits) (p : Plan) {r₁ r₂ : Search} → (r₁ ≡ planned_search ks ws weights l p) → (r₂ ≡ planned_search ks ws weights l p) → r₁ ≡ r₂
run ks ws weights l p h₁ h₂ = settled h₁ h₂
