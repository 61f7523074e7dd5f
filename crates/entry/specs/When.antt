-- When an entry check fails: the condition of each of document 01's numbers 12, 11, 10 and 1 to 5. Definitions only.
-- docs/METHOD.md, 'Before the search'.
use Rattle.std.specs.Prelude.{◌≡◌, true, false, List, ℕ, ◌*◌, ◌<◌, length, Float}
use Rattle.std.specs.Float.Ieee.{lt}
use Rattle.laws.specs.Some.{Some}
use Rattle.laws.specs.Floats.{+0, at, finite, positive}
use Rattle.weights.specs.Weights.{scaled_of}
use Rattle.records.specs.declared.FitConfig.{FitConfig}
use Rattle.entry.specs.Entry.{span_of}

-- 12: the lengths differ, or the room is short of four residual numbers or of one capped position an observation
pub data UnequalOrShort (ks ws weights : List Float) (room slots : ℕ) : Type 0 where
  unequal_w : ¬ (length ks ≡ length ws) → UnequalOrShort ks ws weights room slots
  unequal_weight : ¬ (length ks ≡ length weights) → UnequalOrShort ks ws weights room slots
  short_residuals : room < length ks * 4 → UnequalOrShort ks ws weights room slots
  short_capped : slots < length ks → UnequalOrShort ks ws weights room slots

-- 11: over 256 observations, or a setting over its size
pub data OverSize (n : ℕ) (c : FitConfig) : Type 0 where
  observations_over : 256 < n → OverSize n c
  grid_over : 255 < c.grid → OverSize n c
  refinements_over : 1000 < c.refinements → OverSize n c
  recentres_over : 1000 < c.max_recentres → OverSize n c

-- 10, of one observation: k or w or the weight not finite, w below zero, the weight not above zero
pub data BadObservation (k w t : Float) : Type 0 where
  k_not_finite : finite k ≡ false → BadObservation k w t
  w_not_finite : finite w ≡ false → BadObservation k w t
  w_below_zero : lt w +0 ≡ true → BadObservation k w t
  weight_not_positive : positive t ≡ false → BadObservation k w t

-- 1: grid or min_observations below 5, one of seven floats not finite and positive, or sigma_lo not below sigma_hi
pub data BadSettings (c : FitConfig) : Type 0 where
  grid_small : c.grid < 5 → BadSettings c
  observations_small : c.min_observations < 5 → BadSettings c
  sigma_lo_off : positive c.sigma_lo ≡ false → BadSettings c
  sigma_hi_off : positive c.sigma_hi ≡ false → BadSettings c
  a_min_off : positive c.a_min ≡ false → BadSettings c
  rmse_off : positive c.max_rmse_vol ≡ false → BadSettings c
  pivot_off : positive c.pivot_tolerance ≡ false → BadSettings c
  feasibility_off : positive c.feasibility_tolerance ≡ false → BadSettings c
  ratio_off : positive c.max_weight_ratio ≡ false → BadSettings c
  sigmas_not_rising : lt c.sigma_lo c.sigma_hi ≡ false → BadSettings c

module _ (tau : Float) (c : FitConfig) (ks ws weights : List Float) (room slots : ℕ) where
  -- the entry check numbered n fails
  pub data EntryFails (n : ℕ) : Type 0 where
    lengths : n ≡ 12 → UnequalOrShort ks ws weights room slots → EntryFails n
    sizes : n ≡ 11 → OverSize (length ks) c → EntryFails n
    observation : n ≡ 10 → Some (length ks) (λ i. BadObservation (at ks i) (at ws i) (at weights i)) → EntryFails n
    settings : n ≡ 1 → BadSettings c → EntryFails n
    expiry : n ≡ 2 → positive tau ≡ false → EntryFails n
    too_few : n ≡ 3 → length ks < c.min_observations → EntryFails n
    no_span : n ≡ 4 → positive (span_of ks) ≡ false → EntryFails n
    bad_weight : n ≡ 5 → Some (length weights) (λ i. positive (at (scaled_of c.max_weight_ratio weights) i) ≡ false) → EntryFails n
