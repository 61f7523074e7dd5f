-- The end of the fit, from the best cell of the search to the answer. Every operation is rounded once, in the order written. Definitions only.
-- docs/METHOD.md, 'The end'.
use Rattle.std.specs.Prelude.{Bool, false, ◌||◌, cond, List, ℕ, eqb, length, get_or, set, Float}
use Rattle.std.specs.Float.Ieee.{lt, le, neg}
use Rattle.laws.specs.Loop.{for}
use Rattle.laws.specs.Choice.{unless}
use Rattle.laws.specs.Floats.{◌+f◌, ◌-f◌, ◌*f◌, ◌/f◌, +0, one, at, abs_of}
use Rattle.slice.specs.declared.KRange.{KRange}
use Rattle.slice.specs.declared.SviSlice.{SviSlice}
use Rattle.slice.specs.Slice.{number_of, lee_of, lee_bound}
use Rattle.cell.specs.declared.Cell.{Cell}
use Rattle.polytope.specs.Polytope.{rows_of, bounds_of, spread_of, dot_of}
use Rattle.judge.specs.Judge.{sums_of, params_hold, rmse_of, rmse_holds}
use Rattle.records.specs.declared.Counts.{Counts}
use Rattle.records.specs.declared.FitConfig.{FitConfig}
use Rattle.records.specs.declared.FitAnswer.{FitAnswer}
use Rattle.records.specs.Answer.{refused_with, refused_after}

-- ---- the active set: the face's constraints, and any other at its bound within the tolerance

unfoldable pub active_of : List Bool → List Float → List Float → List Float → Float → List Bool
active_of face g h x slack = for 0 7 (λ i t. set t i (get_or t i false || le slack (dot_of g x i -f at h i))) face

unfoldable pub marks_at : FitConfig → Float → Float → Cell → List Bool
marks_at c a_max sigma best =
    let h = bounds_of sigma c.a_min a_max in
    active_of best.active rows_of h best.x (neg c.feasibility_tolerance *f spread_of h)

-- ---- the parameters of x = (a, d, c): at an active bound from the constraint itself

abbrev pub mark : List Bool → ℕ → Bool
mark active i = get_or active i false

-- rho = 1, rho = -1, or d over c
abbrev pub rho_of : List Bool → List Float → Float
rho_of active x =
    cond (mark active 1) one
    (cond (mark active 2) (neg one)
    (cond (lt +0 (at x 2)) (at x 1 /f at x 2) +0))

-- a flat slice, Lee's bound, or c over sigma
abbrev pub slope_of : List Bool → List Float → Float → Float → Float
slope_of active x rho sigma =
    cond (mark active 0 || le (at x 2) +0) +0
    (cond (mark active 3 || mark active 4) (lee_bound /f (one +f abs_of rho))
    (at x 2 /f sigma))

-- a_min, a_max, or a itself
abbrev pub level_of : List Bool → List Float → Float → Float → Float
level_of active x a_min a_max = cond (mark active 5) a_min (cond (mark active 6) a_max (at x 0))

unfoldable pub slice_of : Float → KRange → List Bool → List Float → Float → Float → Float → Float → SviSlice
slice_of tau range active x m sigma a_min a_max =
    record {
      tau = tau;
      a = level_of active x a_min a_max;
      b = slope_of active x (rho_of active x) sigma;
      rho = rho_of active x;
      m = m;
      sigma = sigma;
      k_range = range;
    }

-- ---- the answer, from the best cell and where it stands

unfoldable pub accepted_of : FitConfig → Counts → Float → List Bool → SviSlice → Float → Float → FitAnswer
accepted_of c counts objective active s params rmse =
    record {
      number = 0;
      observed = 0;
      required = 0;
      rmse_vol = rmse;
      max_rmse_vol = +0;
      slice = s;
      objective = objective;
      objective_params = params;
      lee_margin = lee_bound -f lee_of s;
      a_margin = s.a -f c.a_min;
      active = active;
      counts = counts;
      capped = 0;
    }

-- 8 unless the slice passes its tests, evaluates at each observation and keeps to its objective; 9 unless rmse is in its range
unfoldable pub end_of : FitConfig → Counts → Float → Float → List Bool → SviSlice → List Float → List Float → List Float → FitAnswer
end_of c counts a_max objective active s ks ws weights =
    let t = sums_of s ks ws weights in
    let rmse = rmse_of t (length ks) in
    unless (eqb (number_of s) 0) (refused_after 8 counts)
    (unless (params_hold c a_max objective t) (refused_after 8 counts)
    (unless (rmse_holds c rmse) (refused_with 9 0 0 rmse c.max_rmse_vol counts)
    (accepted_of c counts objective active s t.params rmse)))
