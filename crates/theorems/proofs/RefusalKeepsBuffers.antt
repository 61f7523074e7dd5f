-- A refused fit writes nothing: whatever answer and final buffers the contract of `fit_slice` allows, a number other than 0 leaves both lent buffers as they were.
use mathlib.Core.Path.{◌≡◌, sym, ◌∙◌}
use mathlib.Core.List.{List}
use Prim.Native.Nat.{ℕ}
use lib.Ieee.{Float}
use Rattle.laws.proofs.Rooms.{kept}
use Rattle.records.specs.declared.FitConfig.{FitConfig}
use Rattle.records.specs.declared.FitAnswer.{FitAnswer}
use Rattle.calibrate.specs.Fit.{Fitted}

pub refusal_keeps_buffers :
    (tau : Float) (c : FitConfig) (ks ws weights residuals : List Float) (capped : List ℕ) (r : FitAnswer) (residuals' : List Float) (capped' : List ℕ)
    → Fitted tau c ks ws weights residuals capped r residuals' capped' → ¬ (r.number ≡ 0) → (residuals' ≡ residuals) × (capped' ≡ capped)
refusal_keeps_buffers tau c ks ws weights residuals capped r residuals' capped' f h =
    (f.left ∙ sym (kept r.number _ residuals h), f.listed ∙ sym (kept r.number _ capped h))
