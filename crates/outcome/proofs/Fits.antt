-- How long the two lists of an accepted fit are, and what its outcome counts. Assumes nothing.
use Prim.Native.Nat.{ℕ, ◌+◌, ◌*◌, ◌≤◌}
use mathlib.Core.Path.{◌≡◌, refl, sym, ap, ◌∙◌}
use mathlib.Core.Bool.{Bool, true, false}
use mathlib.Core.List.{List, [], ◌∷◌, map}
use native.Mathlib.Omega.{arith}
use lib.Dec.{eqb}
use lib.ListN.{length, length-append}
use lib.Ieee.{Float, lt}
use borrow.Author.Tests.{eq-eqb, eqb-true}
use Rattle.std.specs.Prelude.{Option, None, Some}
use Rattle.laws.specs.Choice.{unless}
use Rattle.laws.specs.Floats.{at}
use Rattle.laws.proofs.Choices.{cond_ind, false_true}
use Rattle.laws.proofs.Loops.{for_ind}
use Rattle.slice.specs.declared.SviSlice.{SviSlice}
use Rattle.weights.specs.Weights.{scaled_of, capped_at, capped_of}
use Rattle.records.specs.declared.FitConfig.{FitConfig}
use Rattle.records.specs.declared.FitAnswer.{FitAnswer}
use Rattle.records.specs.Answer.{refused_with}
use Rattle.entry.specs.Entry.{entry_number}
use Rattle.calibrate.specs.Fit.{decided_of, refused_early, capped_as, fit_of, residuals_of}
use Rattle.calibrate.proofs.Quads.{residuals_length}
use Rattle.house.specs.declared.Layout.{Layout}
use Rattle.house.specs.declared.Quote.{Quote}
use Rattle.house.specs.File.{house_of, tau_of, config_of, records_at}
use Rattle.house.specs.Check.{k_of, w_of, weight_of}
use Rattle.house.specs.Repeats.{kept}
use Rattle.house.specs.Taken.{intake_number, kept_for, kept_of}
use Rattle.house.proofs.Once.{kept_short}
use Rattle.house.proofs.Taking.{passed, few}
use Rattle.outcome.specs.Outcome.{OutcomeAnswer, outcome_with, refused_at, fit_for, quotes_outcome, outcome_for, file_outcome, settings_for, settings_of, capped_for}

-- four numbers for each observation
pub residuals_long : (s : SviSlice) (ks ws : List Float) → length (residuals_of s ks ws) ≡ length ks * 4
residuals_long s ks ws = residuals_length s ks ws

-- at most one capped position for each
pub capped_short : (ratio : Float) (weights : List Float) → length (capped_of ratio weights) ≤ length weights
unfolding capped_at
capped_short ratio weights =
    for_ind _ (λ (i : ℕ) (l : List ℕ). length l ≤ i) (length weights)
    (λ i l k h. cond_ind (λ (x : List ℕ). length x ≤ i + 1) (lt _ (at weights i)) (omega (arith, h, length-append l (i ∷ []))) (omega (arith, h)))
    [] (omega arith)

-- the count of the capped positions is how many there are
pub capped_count : (tau : Float) (c : FitConfig) (ks ws weights : List Float) (room slots : ℕ) (a : FitAnswer) → a ≡ fit_of tau c ks ws weights room slots → a.number ≡ 0 → a.capped ≡ length (capped_of c.max_weight_ratio weights)
unfolding fit_of refused_with capped_as
capped_count tau c ks ws weights room slots a e z =
    by (entry_number tau c ks ws weights room slots) (eqb (entry_number tau c ks ws weights room slots) 0) refl (decided_of tau c ks ws (scaled_of c.max_weight_ratio weights)) (eqb (decided_of tau c ks ws (scaled_of c.max_weight_ratio weights)).number 0) refl e
  where
    m : ℕ
    m = length (capped_of c.max_weight_ratio weights)

    by : (entry : ℕ) (b : Bool) → eqb entry 0 ≡ b → (d : FitAnswer) (b' : Bool) → eqb d.number 0 ≡ b'
        → a ≡ unless b (refused_early entry (length ks) c.min_observations) (unless b' d (capped_as d m)) → a.capped ≡ m
    by entry true p d true q e = ap (λ (x : FitAnswer). x.capped) e
    by entry true p d false q e = false_true (sym q ∙ eq-eqb d.number 0 (sym (ap (λ (x : FitAnswer). x.number) e) ∙ z))
    by entry false p d b' q e = false_true (sym p ∙ eq-eqb entry 0 (sym (ap (λ (x : FitAnswer). x.number) e) ∙ z))

-- ---- the counts of an accepted outcome

module _ (tau : Float) (config : FitConfig) (qs : List Quote) (room slots : ℕ) where
  -- at most 256 are kept, and the counts are how many are kept and capped
  pub quotes_counts :
      (o : OutcomeAnswer) → o ≡ quotes_outcome tau config qs room slots → o.fit.number ≡ 0
      → (o.kept ≡ length (kept qs)) × (length (kept qs) ≤ 256) × (o.fit.capped ≡ length (capped_for config (kept qs)))
  unfolding quotes_outcome refused_with
  quotes_counts o e z = by (intake_number config qs room slots) (eqb (intake_number config qs room slots) 0) refl refl e
    where
      by : (r : ℕ) (b : Bool) → intake_number config qs room slots ≡ r → eqb r 0 ≡ b
          → o ≡ unless b (refused_at r (length qs)) (outcome_with (length qs) (length (kept qs)) (fit_for tau config (kept qs) room slots))
          → (o.kept ≡ length (kept qs)) × (length (kept qs) ≤ 256) × (o.fit.capped ≡ length (capped_for config (kept qs)))
      by r true i f e =
          let p = passed config qs room slots (i ∙ eqb-true r 0 f) in (
            ap (λ (x : OutcomeAnswer). x.kept) e,
            omega (arith, kept_short qs, few (length qs) config p.1),
            capped_count tau config (map k_of (kept qs)) (map w_of (kept qs)) (map weight_of (kept qs)) room slots o.fit (ap (λ (x : OutcomeAnswer). x.fit) e) z,
          )
      by r false i f e = false_true (sym f ∙ eq-eqb r 0 (sym (ap (λ (x : OutcomeAnswer). x.fit.number) e) ∙ z))

pub file_counts :
    (s : List ℕ) (room slots : ℕ) (o : OutcomeAnswer) → o ≡ file_outcome s room slots → o.fit.number ≡ 0
    → (o.kept ≡ length (kept_of s)) × (length (kept_of s) ≤ 256) × (o.fit.capped ≡ length (capped_for (settings_of s) (kept_of s)))
unfolding file_outcome kept_of settings_of refused_with
file_counts s room slots o e z = by (house_of s) e
  where
    by : (h : Option Layout) → o ≡ outcome_for s h room slots → (o.kept ≡ length (kept_for s h)) × (length (kept_for s h) ≤ 256) × (o.fit.capped ≡ length (capped_for (settings_for s h) (kept_for s h)))
    by None e = absurd (let x : ◌≡◌ {A = ℕ} 0 43 = sym z ∙ ap (λ (x : OutcomeAnswer). x.fit.number) e in omega arith)
    by (Some h) e = quotes_counts (tau_of s h.settings) (config_of s h.settings) (records_at s h.settings h.count) room slots o e z
