-- The fit: what `fit_slice` answers, and what it leaves in the two lent buffers. Definitions only.
-- docs/METHOD.md, 'The search over m and ln sigma', 'The end'.
use Rattle.std.specs.Prelude.{◌≡◌, Bool, cond, List, [], ◌∷◌, ◌++◌, ℕ, eqb, length, Float}
use Rattle.laws.specs.Loop.{for}
use Rattle.laws.specs.Choice.{unless, refusing}
use Rattle.laws.specs.Floats.{◌+f◌, ◌-f◌, ◌*f◌, +0, half, at}
use Rattle.laws.specs.Room.{written}
use Rattle.exponent.specs.Ln.{ln_of}
use Rattle.exponent.specs.Exp.{exp_of}
use Rattle.slice.specs.declared.KRange.{KRange}
use Rattle.slice.specs.declared.SviSlice.{SviSlice}
use Rattle.cell.specs.declared.Limits.{Limits}
use Rattle.weights.specs.Weights.{scaled_of, capped_of}
use Rattle.moves.specs.declared.Axis.{Axis}
use Rattle.moves.specs.declared.Plan.{Plan}
use Rattle.records.specs.declared.Counts.{Counts}
use Rattle.moves.specs.declared.Found.{Found}
use Rattle.moves.specs.declared.Search.{Search}
use Rattle.moves.specs.Moves.{is_refused}
use Rattle.search.specs.Search.{search_of}
use Rattle.search.specs.Run.{fit_cell}
use Rattle.records.specs.declared.FitConfig.{FitConfig}
use Rattle.records.specs.declared.FitAnswer.{FitAnswer}
use Rattle.records.specs.Answer.{no_counts, refused_with, refused_after}
use Rattle.entry.specs.Entry.{range_of, entry_number}
use Rattle.calibrate.specs.End.{marks_at, slice_of, end_of}
use Rattle.judge.specs.Judge.{fitted_in, residual_at, highest_of}

-- ---- the search: m from k_min - R to k_max + R, ln sigma from ln (sigma_lo R) to ln (sigma_hi R), R = k_max - k_min

abbrev pub half_of : Axis → Float
half_of a = half *f (a.hi -f a.lo)

unfoldable pub plan_of : FitConfig → KRange → Plan
plan_of c range =
    let span = range.hi -f range.lo in
    let m : Axis = record { lo = range.lo -f span; hi = range.hi +f span } in
    let s : Axis = record { lo = ln_of (c.sigma_lo *f span); hi = ln_of (c.sigma_hi *f span) } in
    record {
      n = c.grid;
      refinements = c.refinements;
      max_recentres = c.max_recentres;
      domain = record { m = m; s = s };
      hm_max = half_of m;
      hs_max = half_of s;
    }

-- what the fit fixes for all its cells
unfoldable pub limits_of : FitConfig → Float → Limits
limits_of c a_max =
    record { a_min = c.a_min; a_max = a_max; pivot_tolerance = c.pivot_tolerance; feasibility_tolerance = c.feasibility_tolerance }

-- a_max: the largest observed w, or a_min if that is larger
abbrev pub a_max_for : FitConfig → List Float → Float
a_max_for c ws = highest_of ws c.a_min

-- what the fit of observations with these w fixes for all its cells
abbrev pub limits_for : FitConfig → List Float → Limits
limits_for c ws = limits_of c (a_max_for c ws)

-- the search's grid, refinements and max_recentres, which are the settings', and its domain
abbrev pub plan_for : FitConfig → List Float → Plan
plan_for c ks = plan_of c (range_of ks)

-- the search of observations k, w with the scaled weights
unfoldable pub fit_search : FitConfig → List Float → List Float → List Float → Search
fit_search c ks ws weights = search_of (fit_cell ks ws weights (limits_for c ws)) (plan_for c ks)

-- the scaled weights of a fit, and its search with them
abbrev pub scaled_for : FitConfig → List Float → List Float
scaled_for c weights = scaled_of c.max_weight_ratio weights

abbrev pub search_for : FitConfig → List Float → List Float → List Float → Search
search_for c ks ws weights = fit_search c ks ws (scaled_for c weights)

-- ---- at the best point found: sigma, the active set, and the slice

abbrev pub sigma_from : Found → Float
sigma_from best = exp_of best.ls

-- the face's constraints, and any other at its bound
abbrev pub active_from : FitConfig → Float → Found → List Bool
active_from c a_max best = marks_at c a_max (sigma_from best) best.cell

-- the face's x at the point (m, sigma) found
abbrev pub slice_from : Float → FitConfig → KRange → Float → Found → SviSlice
slice_from tau c range a_max best = slice_of tau range (active_from c a_max best) best.cell.x best.m (sigma_from best) c.a_min a_max

-- ---- 6 to 9, or an accepted fit, from what the search found

-- the end at the best cell
unfoldable pub best_end : Float → FitConfig → KRange → Float → Found → Counts → List Float → List Float → List Float → FitAnswer
best_end tau c range a_max best counts ks ws weights =
    end_of c counts a_max best.cell.objective (active_from c a_max best) (slice_from tau c range a_max best) ks ws weights

-- 6, no qualifying face in some pass; 7, the best point on any edge of its pass's grid
unfoldable pub search_end : Float → FitConfig → KRange → Float → Search → List Float → List Float → List Float → FitAnswer
search_end tau c range a_max s ks ws weights =
    cond (is_refused s) (refused_after 6 s.counts)
    (cond s.found.on_edge (refused_after 7 s.counts)
    (best_end tau c range a_max s.found s.counts ks ws weights))

-- the answer of a fit that passed the entry checks, but for its capped positions
unfoldable pub decided_of : Float → FitConfig → List Float → List Float → List Float → FitAnswer
decided_of tau c ks ws weights = search_end tau c (range_of ks) (a_max_for c ws) (fit_search c ks ws weights) ks ws weights

-- ---- the whole

-- a refusal before the search: 3 with the observations given and wanted
abbrev pub refused_early : ℕ → ℕ → ℕ → FitAnswer
refused_early number given wanted = refused_with number (cond (eqb number 3) given 0) (cond (eqb number 3) wanted 0) +0 +0 no_counts

unfoldable pub capped_as : FitAnswer → ℕ → FitAnswer
capped_as a n =
    record {
      number = a.number;
      observed = a.observed;
      required = a.required;
      rmse_vol = a.rmse_vol;
      max_rmse_vol = a.max_rmse_vol;
      slice = a.slice;
      objective = a.objective;
      objective_params = a.objective_params;
      lee_margin = a.lee_margin;
      a_margin = a.a_margin;
      active = a.active;
      counts = a.counts;
      capped = n;
    }

-- the answer: of observations (k, w, weight) in ks, ws, weights, with room for so many residual numbers and capped positions
unfoldable pub fit_of : Float → FitConfig → List Float → List Float → List Float → ℕ → ℕ → FitAnswer
fit_of tau c ks ws weights room slots =
    let decided = decided_of tau c ks ws (scaled_for c weights) in
    refusing (entry_number tau c ks ws weights room slots) (λ n. refused_early n (length ks) c.min_observations)
    (unless (eqb decided.number 0) decided
    (capped_as decided (length (capped_of c.max_weight_ratio weights))))

-- ---- the buffers

-- (k, observed w, fitted w, vol residual) of each observation, in input order
unfoldable pub residuals_of : SviSlice → List Float → List Float → List Float
residuals_of s ks ws =
    for 0 (length ks)
    (λ i l. let r = residual_at s (at ks i) (at ws i) in l ++ (at ks i ∷ at ws i ∷ fitted_in r.fitted ∷ r.vol ∷ [])) []

-- the contract of `fit_slice`: the answer r; an accepted one writes its residuals and its capped positions, a refusal nothing
pub record Fitted
    (tau : Float) (c : FitConfig) (ks ws weights residuals : List Float) (capped : List ℕ) (r : FitAnswer) (residuals' : List Float) (capped' : List ℕ) : Type 0 where
  pub answer : r ≡ fit_of tau c ks ws weights (length residuals) (length capped)
  pub left : residuals' ≡ written r.number (residuals_of r.slice ks ws) residuals
  pub listed : capped' ≡ written r.number (capped_of c.max_weight_ratio weights) capped
