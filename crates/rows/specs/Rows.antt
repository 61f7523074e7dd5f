-- Rows of numbers in place of records, as they cross to other languages: what stands at which place, from 0 on. Definitions only.
use Rattle.std.specs.Prelude.{List, [], ◌∷◌, ◌++◌, ℕ, get_or, Float}
use Rattle.laws.specs.Floats.{at}
use Rattle.slice.specs.declared.KRange.{KRange}
use Rattle.slice.specs.declared.SviSlice.{SviSlice}
use Rattle.slice.specs.declared.Values.{Values}
use Rattle.cell.specs.declared.Limits.{Limits}
use Rattle.cell.specs.declared.Cell.{Cell}
use Rattle.records.specs.declared.FitConfig.{FitConfig}
use Rattle.records.specs.declared.FitAnswer.{FitAnswer}

-- ---- read

-- element i of a list of counts
abbrev pub count_at : List ℕ → ℕ → ℕ
count_at l i = get_or l i 0

-- lo, hi
unfoldable pub read_range : List Float → KRange
read_range row = record { lo = at row 0; hi = at row 1 }

-- tau, a, b, rho, m, sigma, k_range.lo, k_range.hi
unfoldable pub read_slice : List Float → SviSlice
read_slice row =
    record {
      tau = at row 0;
      a = at row 1;
      b = at row 2;
      rho = at row 3;
      m = at row 4;
      sigma = at row 5;
      k_range = record { lo = at row 6; hi = at row 7 };
    }

-- grid, refinements, max_recentres, min_observations; and sigma_lo, sigma_hi, a_min, max_rmse_vol, pivot_tolerance, feasibility_tolerance, max_weight_ratio
unfoldable pub read_config : List ℕ → List Float → FitConfig
read_config sizes reals =
    record {
      grid = count_at sizes 0;
      refinements = count_at sizes 1;
      max_recentres = count_at sizes 2;
      sigma_lo = at reals 0;
      sigma_hi = at reals 1;
      a_min = at reals 2;
      min_observations = count_at sizes 3;
      max_rmse_vol = at reals 3;
      pivot_tolerance = at reals 4;
      feasibility_tolerance = at reals 5;
      max_weight_ratio = at reals 6;
    }

-- a_min, a_max, pivot_tolerance, feasibility_tolerance
unfoldable pub read_limits : List Float → Limits
read_limits row =
    record { a_min = at row 0; a_max = at row 1; pivot_tolerance = at row 2; feasibility_tolerance = at row 3 }

-- ---- written

-- lo, hi
abbrev pub range_row : KRange → List Float
range_row r = r.lo ∷ r.hi ∷ []

-- tau, a, b, rho, m, sigma, k_range.lo, k_range.hi
abbrev pub slice_row : SviSlice → List Float
slice_row s = s.tau ∷ s.a ∷ s.b ∷ s.rho ∷ s.m ∷ s.sigma ∷ range_row s.k_range

-- w, w_k, w_kk
abbrev pub values_row : Values → List Float
values_row v = v.w ∷ v.w_k ∷ v.w_kk ∷ []

-- grid, refinements, max_recentres, min_observations
abbrev pub sizes_row : FitConfig → List ℕ
sizes_row c = c.grid ∷ c.refinements ∷ c.max_recentres ∷ c.min_observations ∷ []

-- sigma_lo, sigma_hi, a_min, max_rmse_vol, pivot_tolerance, feasibility_tolerance, max_weight_ratio
abbrev pub reals_row : FitConfig → List Float
reals_row c =
    c.sigma_lo ∷ c.sigma_hi ∷ c.a_min ∷ c.max_rmse_vol ∷ c.pivot_tolerance ∷ c.feasibility_tolerance ∷ c.max_weight_ratio ∷ []

-- observed, required, passes, recentres, shrinks, cells, faces, updates, capped
abbrev pub fit_counts : FitAnswer → List ℕ
fit_counts a =
    a.observed ∷ a.required ∷ a.counts.passes ∷ a.counts.recentres ∷ a.counts.shrinks ∷ a.counts.cells ∷ a.counts.faces ∷ a.counts.updates ∷ a.capped ∷ []

-- rmse_vol, max_rmse_vol, the eight numbers of the slice, objective, objective_params, lee_margin, a_margin
abbrev pub fit_values : FitAnswer → List Float
fit_values a =
    a.rmse_vol ∷ a.max_rmse_vol ∷ (slice_row a.slice ++ (a.objective ∷ a.objective_params ∷ a.lee_margin ∷ a.a_margin ∷ []))

-- faces, updates
abbrev pub cell_counts : Cell → List ℕ
cell_counts c = c.faces ∷ c.updates ∷ []

-- the objective, then the three numbers of x
abbrev pub cell_values : Cell → List Float
cell_values c = c.objective ∷ at c.x 0 ∷ at c.x 1 ∷ at c.x 2 ∷ []
