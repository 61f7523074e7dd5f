-- The test of each entry check and its condition: where the test fails the condition holds, and where it passes the condition does not. Assumes nothing.
use mathlib.Core.Path.{◌≡◌, refl, sym, subst}
use mathlib.Core.Bool.{Bool, true, false, not, ◌&&◌}
use mathlib.Core.List.{List}
use Prim.Native.Nat.{ℕ, ◌*◌, ◌<◌}
use native.Mathlib.Omega.{arith}
use lib.Dec.{T, eqb, leb}
use lib.ListN.{length}
use lib.Ieee.{Float, lt, le, of_bits}
use lib.Ieee.Bits.{is_true}
use borrow.Author.Tests.{eqb-false, leb-true, leb-false}
use Rattle.laws.specs.Some.{Some}
use Rattle.laws.specs.Floats.{+0, at, finite, positive}
use Rattle.laws.proofs.Choices.{both, split, off, false_true}
use Rattle.laws.proofs.Floats.{finite_no_nan}
use Rattle.laws.proofs.Somes.{some_fails, none_fails}
use Rattle.laws.proofs.Order.{lt_or, lt_le_trans, lt_not_self}
use Rattle.weights.specs.Weights.{scaled_of, all_good}
use Rattle.weights.proofs.Places.{scaled_length}
use Rattle.records.specs.declared.FitConfig.{FitConfig}
use Rattle.records.specs.Settings.{settings_hold, sizes_hold}
use Rattle.entry.specs.Entry.{lengths_hold, columns_pass}
use Rattle.records.specs.Observation.{passes}
use Rattle.entry.proofs.Known.{lengths_are}
use Rattle.entry.specs.When as when
use Rattle.entry.specs.When.{UnequalOrShort, OverSize, BadObservation, BadSettings}

-- ---- bools

pub is_T : {b : Bool} → b ≡ true → T b
is_T e = subst T (sym e) tt

not_T : {b : Bool} → b ≡ false → T (not b)
not_T e = subst (λ (b : Bool). T (not b)) (sym e) tt

-- ---- 12

module _ (ks ws weights : List Float) (room slots : ℕ) where
  abbrev n : ℕ
  n = length ks

  pub lengths_fail : lengths_hold ks ws weights room slots ≡ false → UnequalOrShort ks ws weights room slots
  unfolding lengths_hold
  lengths_fail h =
      split (eqb n (length ws) && eqb n (length weights) && leb (n * 4) room) (leb n slots) h
      (λ h. split (eqb n (length ws) && eqb n (length weights)) (leb (n * 4) room) h
      (λ h. split (eqb n (length ws)) (eqb n (length weights)) h (λ e. when.unequal_w (eqb-false _ _ e)) (λ e. when.unequal_weight (eqb-false _ _ e)))
      (λ e. when.short_residuals (leb-false _ _ e)))
      (λ e. when.short_capped (leb-false _ _ e))

  pub lengths_refute : lengths_hold ks ws weights room slots ≡ true → UnequalOrShort ks ws weights room slots → ⊥
  lengths_refute h =
      let l = lengths_are ks ws weights room slots h in
      elim [
        | when.unequal_w f ↦ f (sym l.ws_long)
        | when.unequal_weight f ↦ f (sym l.weights_long)
        | when.short_residuals m ↦ omega (arith, l.rooms)
        | when.short_capped m ↦ omega (arith, l.places)
      ]

-- ---- 11

module _ (n : ℕ) (c : FitConfig) where
  pub sizes_fail : sizes_hold n c ≡ false → OverSize n c
  unfolding sizes_hold
  sizes_fail h =
      split (leb n 256 && leb c.grid 255 && leb c.refinements 1000) (leb c.max_recentres 1000) h
      (λ h. split (leb n 256 && leb c.grid 255) (leb c.refinements 1000) h
      (λ h. split (leb n 256) (leb c.grid 255) h (λ e. when.observations_over (leb-false _ _ e)) (λ e. when.grid_over (leb-false _ _ e)))
      (λ e. when.refinements_over (leb-false _ _ e)))
      (λ e. when.recentres_over (leb-false _ _ e))

  pub sizes_refute : sizes_hold n c ≡ true → OverSize n c → ⊥
  unfolding sizes_hold
  sizes_refute h =
      let p = both (leb n 256 && leb c.grid 255 && leb c.refinements 1000) (leb c.max_recentres 1000) h in
      let q = both (leb n 256 && leb c.grid 255) (leb c.refinements 1000) p.0 in
      let r = both (leb n 256) (leb c.grid 255) q.0 in
      elim [
        | when.observations_over l ↦ let m = leb-true n 256 r.0 in omega arith
        | when.grid_over l ↦ let m = leb-true c.grid 255 r.1 in omega arith
        | when.refinements_over l ↦ let m = leb-true c.refinements 1000 q.1 in omega arith
        | when.recentres_over l ↦ let m = leb-true c.max_recentres 1000 p.1 in omega arith
      ]

-- ---- 10

-- of two floats that are no NaN, x is at least y or below it
pub below : (x y : Float) → finite x ≡ true → finite y ≡ true → le y x ≡ false → lt x y ≡ true
below x y f g e = is_true _ (lt_or y x (finite_no_nan y g) (finite_no_nan x f) (not_T e))

-- and not both
pub not_both : (x y : Float) → le y x ≡ true → lt x y ≡ true → ⊥
not_both x y e h = lt_not_self x (lt_le_trans x y x (is_T h) (is_T e))

zero_finite : finite +0 ≡ true
unfolding finite of_bits
zero_finite = refl

module _ (k w t : Float) where
  passes_fail : passes k w t ≡ false → BadObservation k w t
  passes_fail h = go (finite k) (finite w) (le +0 w) (positive t) refl refl refl refl h
    where
      go : (a b d e : Bool) → finite k ≡ a → finite w ≡ b → le +0 w ≡ d → positive t ≡ e → (a && b && d && e) ≡ false → BadObservation k w t
      go false b d e p q r s h = when.k_not_finite p
      go true false d e p q r s h = when.w_not_finite q
      go true true false e p q r s h = when.w_below_zero (below w +0 q zero_finite r)
      go true true true false p q r s h = when.weight_not_positive s
      go true true true true p q r s h = false_true (sym h)

  passes_refute : passes k w t ≡ true → BadObservation k w t → ⊥
  passes_refute h =
      let p = both (finite k && finite w && le +0 w) (positive t) h in
      let q = both (finite k && finite w) (le +0 w) p.0 in
      let r = both (finite k) (finite w) q.0 in
      elim [
        | when.k_not_finite e ↦ off e r.0
        | when.w_not_finite e ↦ off e r.1
        | when.w_below_zero e ↦ not_both w +0 q.1 e
        | when.weight_not_positive e ↦ off e p.1
      ]

module _ (ks ws weights : List Float) where
  abbrev Bad : Type 0
  Bad = Some (length ks) (λ i. BadObservation (at ks i) (at ws i) (at weights i))

  pub observations_fail : columns_pass ks ws weights ≡ false → Bad
  unfolding columns_pass
  observations_fail h =
      let s = some_fails (λ i. passes (at ks i) (at ws i) (at weights i)) (length ks) h in
      (s.0, s.1, passes_fail (at ks s.0) (at ws s.0) (at weights s.0) s.2)

  pub observations_pass : columns_pass ks ws weights ≡ true → (i : ℕ) → i < length ks → passes (at ks i) (at ws i) (at weights i) ≡ true
  unfolding columns_pass
  observations_pass = none_fails (λ i. passes (at ks i) (at ws i) (at weights i)) (length ks)

  pub observations_refute : columns_pass ks ws weights ≡ true → Bad → ⊥
  observations_refute h s = passes_refute (at ks s.0) (at ws s.0) (at weights s.0) (observations_pass h s.0 s.1) s.2

-- ---- 1

module _ (c : FitConfig) where
  abbrev wide : Bool
  wide = leb 5 c.grid

  abbrev many : Bool
  many = leb 5 c.min_observations

  abbrev sigmas : Bool
  sigmas = positive c.sigma_lo && positive c.sigma_hi

  abbrev levels : Bool
  levels = positive c.a_min && positive c.max_rmse_vol

  abbrev steps : Bool
  steps = positive c.pivot_tolerance && positive c.feasibility_tolerance && positive c.max_weight_ratio

  pub settings_fail : settings_hold c ≡ false → BadSettings c
  unfolding settings_hold
  settings_fail h =
      split (wide && many && sigmas && levels && steps) (lt c.sigma_lo c.sigma_hi) h
      (λ h. split (wide && many && sigmas && levels) steps h
      (λ h. split (wide && many && sigmas) levels h
      (λ h. split (wide && many) sigmas h
      (λ h. split wide many h (λ x. when.grid_small (leb-false _ _ x)) (λ x. when.observations_small (leb-false _ _ x)))
      (λ h. split (positive c.sigma_lo) (positive c.sigma_hi) h when.sigma_lo_off when.sigma_hi_off))
      (λ h. split (positive c.a_min) (positive c.max_rmse_vol) h when.a_min_off when.rmse_off))
      (λ h. split (positive c.pivot_tolerance && positive c.feasibility_tolerance) (positive c.max_weight_ratio) h
      (λ h. split (positive c.pivot_tolerance) (positive c.feasibility_tolerance) h when.pivot_off when.feasibility_off)
      when.ratio_off))
      when.sigmas_not_rising

  record Settings : Type 0 where
    grid : wide ≡ true
    observations : many ≡ true
    sigma_lo : positive c.sigma_lo ≡ true
    sigma_hi : positive c.sigma_hi ≡ true
    a_min : positive c.a_min ≡ true
    rmse : positive c.max_rmse_vol ≡ true
    pivot : positive c.pivot_tolerance ≡ true
    feasibility : positive c.feasibility_tolerance ≡ true
    ratio : positive c.max_weight_ratio ≡ true
    rising : lt c.sigma_lo c.sigma_hi ≡ true

  settings_are : settings_hold c ≡ true → Settings
  unfolding settings_hold
  settings_are h =
      let p = both (wide && many && sigmas && levels && steps) (lt c.sigma_lo c.sigma_hi) h in
      let q = both (wide && many && sigmas && levels) steps p.0 in
      let r = both (wide && many && sigmas) levels q.0 in
      let s = both (wide && many) sigmas r.0 in
      let t = both wide many s.0 in
      let u = both (positive c.sigma_lo) (positive c.sigma_hi) s.1 in
      let v = both (positive c.a_min) (positive c.max_rmse_vol) r.1 in
      let w = both (positive c.pivot_tolerance && positive c.feasibility_tolerance) (positive c.max_weight_ratio) q.1 in
      let x = both (positive c.pivot_tolerance) (positive c.feasibility_tolerance) w.0 in
      record {
        grid = t.0;
        observations = t.1;
        sigma_lo = u.0;
        sigma_hi = u.1;
        a_min = v.0;
        rmse = v.1;
        pivot = x.0;
        feasibility = x.1;
        ratio = w.1;
        rising = p.1;
      }

  pub settings_refute : settings_hold c ≡ true → BadSettings c → ⊥
  settings_refute h =
      let s = settings_are h in
      elim [
        | when.grid_small l ↦ let m = leb-true 5 c.grid s.grid in omega arith
        | when.observations_small l ↦ let m = leb-true 5 c.min_observations s.observations in omega arith
        | when.sigma_lo_off x ↦ off x s.sigma_lo
        | when.sigma_hi_off x ↦ off x s.sigma_hi
        | when.a_min_off x ↦ off x s.a_min
        | when.rmse_off x ↦ off x s.rmse
        | when.pivot_off x ↦ off x s.pivot
        | when.feasibility_off x ↦ off x s.feasibility
        | when.ratio_off x ↦ off x s.ratio
        | when.sigmas_not_rising x ↦ off x s.rising
      ]

  pub max_finite : settings_hold c ≡ true → finite c.max_rmse_vol ≡ true
  max_finite h = (both (finite c.max_rmse_vol) (lt +0 c.max_rmse_vol) (settings_are h).rmse).0

-- ---- 5

module _ (ratio : Float) (weights : List Float) where
  abbrev scaled : List Float
  scaled = scaled_of ratio weights

  pub weights_fail : all_good scaled ≡ false → Some (length weights) (λ i. positive (at scaled i) ≡ false)
  unfolding all_good
  weights_fail h =
      let s = some_fails (λ i. positive (at scaled i)) (length scaled) h in
      (s.0, subst (λ (m : ℕ). s.0 < m) (scaled_length ratio weights) s.1, s.2)

  pub weights_refute : all_good scaled ≡ true → Some (length weights) (λ i. positive (at scaled i) ≡ false) → ⊥
  unfolding all_good
  weights_refute h s = off s.2 (none_fails (λ i. positive (at scaled i)) (length scaled) h s.0 (subst (λ (m : ℕ). s.0 < m) (sym (scaled_length ratio weights)) s.1))
