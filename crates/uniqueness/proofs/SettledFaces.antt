-- No second answer meets the contract of a public function of crate `faces`. Written by tools/settle from the contracts. Assumes nothing.
use Rattle.faces.specs.Faces.{face_marks}
use Rattle.faces.specs.Next.{next_of}
use Rattle.faces.specs.declared.Face.{Face}
use Rattle.laws.proofs.Choices.{settled}
use Rattle.std.specs.Prelude.{Bool, List, ◌≡◌}

-- faces::next
pub next : (f : Face) {r₁ r₂ : Face} → (r₁ ≡ next_of 7 f) → (r₂ ≡ next_of 7 f) → r₁ ≡ r₂
next f h₁ h₂ = settled h₁ h₂

-- faces::marks
pub marks : (f : Face) {r₁ r₂ : List Bool} → (r₁ ≡ face_marks f) → (r₂ ≡ face_marks f) → r₁ ≡ r₂
marks f h₁ h₂ = settled h₁ h₂
