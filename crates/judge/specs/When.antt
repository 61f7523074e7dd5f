-- When a slice fails on observations with weights: the conditions of document 01's numbers 8 and 9. Definitions only.
-- docs/METHOD.md, 'The end'.
use Rattle.std.specs.Prelude.{◌≡◌, ℕ, ◌<◌, true, false, List, length, Float, Err}
use Rattle.std.specs.Float.Ieee.{lt, le}
use Rattle.laws.specs.Floats.{◌+f◌, ◌*f◌, f64, at, finite}
use Rattle.slice.specs.declared.SviSlice.{SviSlice}
use Rattle.slice.specs.Slice.{number_of, eval_raw}
use Rattle.records.specs.declared.FitConfig.{FitConfig}
use Rattle.judge.specs.Judge.{sums_of, rmse_of}

module _ (s : SviSlice) (ks ws weights : List Float) where
  -- objective_params, the total weight, and rmse_vol
  abbrev pub params_of : Float
  params_of = (sums_of s ks ws weights).params

  abbrev pub total_weight : Float
  total_weight = (sums_of s ks ws weights).weight

  abbrev pub rmse_at : Float
  rmse_at = rmse_of (sums_of s ks ws weights) (length ks)

module _ (c : FitConfig) (s : SviSlice) (ks ws weights : List Float) where
  -- 8: the slice fails one of its tests, or does not evaluate at some observation, or objective_params is not finite or not at most objective + (1e-9 objective + tolerance total_weight a_max a_max)
  pub data OutOfDomain (a_max objective : Float) : Type 0 where
    bad_slice : ¬ (number_of s ≡ 0) → OutOfDomain a_max objective
    no_value : (i n : ℕ) → i < length ks → eval_raw s (at ks i) ≡ Err n → OutOfDomain a_max objective
    params_not_finite : finite (params_of s ks ws weights) ≡ false → OutOfDomain a_max objective
    params_above :
        le (params_of s ks ws weights) (objective +f (f64 0x3e11_2e0b_e826_d695 *f objective +f c.feasibility_tolerance *f total_weight s ks ws weights *f a_max *f a_max)) ≡ false
        → OutOfDomain a_max objective

  -- 9: rmse_vol is not finite, or above max_rmse_vol
  pub data RmseAboveMax : Type 0 where
    rmse_not_finite : finite (rmse_at s ks ws weights) ≡ false → RmseAboveMax
    rmse_above : lt c.max_rmse_vol (rmse_at s ks ws weights) ≡ true → RmseAboveMax
