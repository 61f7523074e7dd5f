-- No second answer meets the contract of a public function of crate `text`. Written by tools/settle from the contracts. Assumes nothing.
use Rattle.records.specs.declared.FitAnswer.{FitAnswer}
use Rattle.std.specs.Prelude.{Float, List, length, ℕ, ◌≡◌, ◌≤◌}
use Rattle.text.specs.Answers.{accepted_text, malformed_text, refused_text}
use Rattle.text.specs.Place.{longest, placed}

-- text::malformed
pub malformed : (out : List ℕ) {r₁ r₂ : ℕ} {out-exit₁ out-exit₂ : List ℕ} → ((r₁ ≡ length malformed_text) × (out-exit₁ ≡ placed malformed_text out) × (r₁ ≤ 128)) → ((r₂ ≡ length malformed_text) × (out-exit₂ ≡ placed malformed_text out) × (r₂ ≤ 128)) → (r₁ ≡ r₂) × (out-exit₁ ≡ out-exit₂)
malformed out {r₁} {r₂} {out-exit₁} {out-exit₂} h₁ h₂ = (cc, cc)

-- text::refused
pub refused : (read : ℕ) (kept : ℕ) (a : FitAnswer) (out : List ℕ) {r₁ r₂ : ℕ} {out-exit₁ out-exit₂ : List ℕ} → ((r₁ ≡ length (refused_text read kept a)) × (out-exit₁ ≡ placed (refused_text read kept a) out) × (r₁ ≤ 256)) → ((r₂ ≡ length (refused_text read kept a)) × (out-exit₂ ≡ placed (refused_text read kept a) out) × (r₂ ≤ 256)) → (r₁ ≡ r₂) × (out-exit₁ ≡ out-exit₂)
refused read kept a out {r₁} {r₂} {out-exit₁} {out-exit₂} h₁ h₂ = (cc, cc)

-- text::accepted
pub accepted : (read : ℕ) (kept : ℕ) (a : FitAnswer) (residuals : List Float) (capped : List ℕ) (out : List ℕ) {r₁ r₂ : ℕ} {out-exit₁ out-exit₂ : List ℕ} → ((r₁ ≡ length (accepted_text read kept a residuals capped)) × (out-exit₁ ≡ placed (accepted_text read kept a residuals capped) out) × (r₁ ≤ longest)) → ((r₂ ≡ length (accepted_text read kept a residuals capped)) × (out-exit₂ ≡ placed (accepted_text read kept a residuals capped) out) × (r₂ ≤ longest)) → (r₁ ≡ r₂) × (out-exit₁ ≡ out-exit₂)
accepted read kept a residuals capped out {r₁} {r₂} {out-exit₁} {out-exit₂} h₁ h₂ = (cc, cc)
