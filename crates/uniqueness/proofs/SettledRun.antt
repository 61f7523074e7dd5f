-- No second answer meets the contract of a public function of crate `run`. Written by tools/settle from the contracts. Assumes nothing.
use Rattle.run.specs.Answer.{answer_of}
use Rattle.std.specs.Prelude.{List, length, ℕ, ◌≡◌, ◌≤◌}
use Rattle.text.specs.Place.{longest, placed}

-- run::run
pub run : (file : List ℕ) (out : List ℕ) {r₁ r₂ : ℕ} {out-exit₁ out-exit₂ : List ℕ} → ((r₁ ≡ length (answer_of file)) × (out-exit₁ ≡ placed (answer_of file) out) × (r₁ ≤ longest)) → ((r₂ ≡ length (answer_of file)) × (out-exit₂ ≡ placed (answer_of file) out) × (r₂ ≤ longest)) → (r₁ ≡ r₂) × (out-exit₁ ≡ out-exit₂)
run file out {r₁} {r₂} {out-exit₁} {out-exit₂} h₁ h₂ = (cc, cc)
