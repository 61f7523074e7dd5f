-- A slice judged on observations (k, w) with weights. Every operation is rounded once, in the order written. Definitions only.
-- docs/METHOD.md, 'The end'.
use Rattle.std.specs.Prelude.{ℕ, Bool, true, false, ◌&&◌, List, length, ◌==◌, Float, Result, Ok, Err, Option, Some, None, is_some}
use Rattle.std.specs.Option.{unwrap_or}
use Rattle.std.specs.Float.Ieee.{le}
use Rattle.laws.specs.Loop.{for}
use Rattle.laws.specs.Choice.{unless}
use Rattle.laws.specs.Floats.{◌+f◌, ◌-f◌, ◌*f◌, ◌/f◌, f64, num, +0, at, finite, max_of}
use Rattle.roots.specs.Root.{root_of}
use Rattle.slice.specs.declared.SviSlice.{SviSlice}
use Rattle.slice.specs.declared.Values.{Values}
use Rattle.slice.specs.Slice.{eval_raw}
use Rattle.records.specs.declared.FitConfig.{FitConfig}
use Rattle.judge.specs.declared.Residual.{Residual}
use Rattle.judge.specs.declared.Sums.{Sums}

-- the fitted w, where the slice evaluates
abbrev pub reading_of : Result Values ℕ → Option Float
reading_of (Ok v) = Some v.w
reading_of (Err n) = None

-- and 0 where it does not
abbrev pub fitted_in : Option Float → Float
fitted_in e = unwrap_or e +0

abbrev pub vol_of : Float → Float → Float
vol_of tau w = root_of (w /f tau)

-- at one observation: the fitted w, where the slice evaluates, and the observed minus the fitted volatility
unfoldable pub residual_at : SviSlice → Float → Float → Residual
residual_at s k w =
    let e = reading_of (eval_raw s k) in
    record { fitted = e; vol = vol_of s.tau w -f vol_of s.tau (fitted_in e) }

-- sum_sq, objective_params and total_weight, one observation further
unfoldable pub added_to : Sums → Residual → Float → Float → Sums
added_to t r w weight =
    record {
      ok = t.ok && is_some r.fitted;
      squares = t.squares +f r.vol *f r.vol;
      params = t.params +f weight *f (fitted_in r.fitted -f w) *f (fitted_in r.fitted -f w);
      weight = t.weight +f weight;
    }

unfoldable pub sums_of : SviSlice → List Float → List Float → List Float → Sums
sums_of s ks ws weights =
    for 0 (length ks) (λ i t. added_to t (residual_at s (at ks i) (at ws i)) (at ws i) (at weights i))
    (record { ok = true; squares = +0; params = +0; weight = +0 })

-- each observation has its w and its weight
unfoldable pub matched_of : List Float → List Float → List Float → Bool
matched_of ks ws weights = length ks == length ws && length ks == length weights

-- the sums; where the lengths differ nothing evaluates
unfoldable pub matched_sums : SviSlice → List Float → List Float → List Float → Sums
matched_sums s ks ws weights = unless (matched_of ks ws weights) (record { ok = false; squares = +0; params = +0; weight = +0 }) (sums_of s ks ws weights)

-- a_max: the largest observed w, or a_min if that is larger
unfoldable pub highest_of : List Float → Float → Float
highest_of ws a_min = for 0 (length ws) (λ i t. max_of t (at ws i)) a_min

-- every observation evaluates, and objective_params is finite and within 1e-9 objective + tolerance total_weight a_max a_max of the objective
unfoldable pub params_hold : FitConfig → Float → Float → Sums → Bool
params_hold c a_max objective t =
    t.ok && finite t.params
    && le t.params (objective +f (f64 0x3e11_2e0b_e826_d695 *f objective +f c.feasibility_tolerance *f t.weight *f a_max *f a_max))

unfoldable pub rmse_of : Sums → ℕ → Float
rmse_of t n = root_of (t.squares /f num n)

unfoldable pub rmse_holds : FitConfig → Float → Bool
rmse_holds c rmse = finite rmse && le rmse c.max_rmse_vol
