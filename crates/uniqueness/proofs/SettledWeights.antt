-- No second answer meets the contract of a public function of crate `weights`. Written by tools/settle from the contracts. Assumes nothing.
use Rattle.std.specs.Prelude.{Float, List, ◌≡◌}
use Rattle.weights.specs.Weights.{scaled_in, weights_of}
use Rattle.weights.specs.declared.Weights.{Weights}

-- weights::weights_of
pub weights_of_lem : (weights : List Float) (ratio : Float) (room : List Float) {r₁ r₂ : Weights} {room-exit₁ room-exit₂ : List Float} → ((r₁ ≡ weights_of ratio weights) × (room-exit₁ ≡ scaled_in ratio weights room)) → ((r₂ ≡ weights_of ratio weights) × (room-exit₂ ≡ scaled_in ratio weights room)) → (r₁ ≡ r₂) × (room-exit₁ ≡ room-exit₂)
weights_of_lem weights ratio room {r₁} {r₂} {room-exit₁} {room-exit₂} h₁ h₂ = (cc, cc)
