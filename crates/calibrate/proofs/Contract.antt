-- The contract of `fit_slice`, once for every refusal and once for an accepted fit. Assumes nothing.
use mathlib.Core.Path.{◌≡◌, refl, sym, ap, ◌∙◌}
use mathlib.Core.List.{List, ◌++◌}
use Prim.Native.Nat.{ℕ, ◌*◌}
use lib.ListN.{length, drop}
use lib.Ieee.{Float}
use Rattle.laws.specs.Room.{written}
use Rattle.laws.proofs.Choices.{number_goes}
use Rattle.laws.proofs.Rooms.{kept, wrote}
use Rattle.weights.specs.Weights.{capped_at, capped_of, cap_of, scaled_of}
use Rattle.records.specs.declared.FitConfig.{FitConfig}
use Rattle.records.specs.declared.FitAnswer.{FitAnswer}
use Rattle.entry.specs.Entry.{entry_number}
use Rattle.calibrate.specs.Fit.{fit_of, decided_of, capped_as, residuals_of, Fitted}
use Rattle.calibrate.proofs.Quads.{residuals_length}

module _ {tau : Float} {c : FitConfig} {ks ws weights o : List Float} {p : List ℕ} {r : FitAnswer} where
  -- a refusal: nothing is written
  pub refuses : r ≡ fit_of tau c ks ws weights (length o) (length p) → (r.number ≡ 0 → ⊥) → Fitted tau c ks ws weights o p r o p
  refuses e h = record { answer = e; left = kept r.number _ o h; listed = kept r.number _ p h }

  -- an accepted fit d, with m capped: both lists are written
  pub accepts : (d : FitAnswer) (m : ℕ) (cap : Float) {o' : List Float} {p' : List ℕ}
      → 0 ≡ entry_number tau c ks ws weights (length o) (length p)
      → d ≡ decided_of tau c ks ws (scaled_of c.max_weight_ratio weights)
      → d.number ≡ 0
      → r ≡ capped_as d m
      → cap ≡ cap_of c.max_weight_ratio weights
      → m ≡ length (capped_at cap weights)
      → o' ≡ residuals_of d.slice ks ws ++ drop (length ks * 4) o
      → p' ≡ capped_at cap weights ++ drop m p
      → Fitted tau c ks ws weights o p r o' p'
  unfolding fit_of capped_as
  accepts d m cap {o'} {p'} entered e z k f n a b =
      let s = residuals_of d.slice ks ws in
      let y : r.number ≡ 0 = ap (λ (x : FitAnswer). x.number) k ∙ z in
      let l : capped_at cap weights ≡ capped_of c.max_weight_ratio weights = ap (λ (x : Float). capped_at x weights) f in
      let q : m ≡ length (capped_of c.max_weight_ratio weights) = n ∙ ap length l in
      record {
        answer =
            number_goes _ entered refl
            (number_goes _ (ap (λ (x : FitAnswer). x.number) e) z
            (k ∙ ap (λ (x : FitAnswer). capped_as x m) e ∙ ap (capped_as (decided_of tau c ks ws (scaled_of c.max_weight_ratio weights))) q));
        left =
            a ∙ ap (λ (x : ℕ). s ++ drop x o) (sym (residuals_length d.slice ks ws)) ∙ wrote r.number s o y
            ∙ ap (λ (x : FitAnswer). written r.number (residuals_of x.slice ks ws) o) (sym k);
        listed = b ∙ rw (l, q) (wrote r.number (capped_of c.max_weight_ratio weights) p y);
      }
