-- When a fit is refused: the condition of each of document 01's numbers, and the order in which they are asked. Definitions only.
-- The conditions of the entry checks (12, 11, 10, 1 to 5) stand in entry/specs/When.antt, those of a slice (8, 9) in judge/specs/When.antt: they speak of no search.
-- docs/METHOD.md, 'The search over m and ln sigma', 'The end'.
use Rattle.std.specs.Prelude.{◌≡◌, true, false, ◌&&◌, cond, List, ℕ, ◌+◌, ◌-◌, ◌<◌, eqb, leb, length, Float}
use Rattle.laws.specs.Some.{Some}
use Rattle.laws.specs.Floats.{+0}
use Rattle.slice.specs.declared.SviSlice.{SviSlice}
use Rattle.moves.specs.declared.Plan.{Plan}
use Rattle.search.specs.Search.{CellFn, cell_at, after_passes}
use Rattle.search.specs.Run.{fit_cell}
use Rattle.records.specs.declared.FitConfig.{FitConfig}
use Rattle.records.specs.declared.FitAnswer.{FitAnswer}
use Rattle.records.specs.Answer.{no_counts, refused_with}
use Rattle.entry.specs.When.{EntryFails}
use Rattle.judge.specs.When.{rmse_at, OutOfDomain, RmseAboveMax}
use Rattle.entry.specs.Entry.{range_of}
use Rattle.calibrate.specs.Fit.{a_max_for, limits_for, plan_for, fit_search, scaled_for, search_for, slice_from}

-- ---- the search, for scaled weights

-- 6: some pass made has no cell with a qualifying face, which is what a cell's `some` says. Pass q is made in the window of the state after q passes
abbrev pub FacelessPass : FitConfig → List Float → List Float → List Float → Type 0
FacelessPass c ks ws weights =
    let f : CellFn = fit_cell ks ws weights (limits_for c ws) in
    let p : Plan = plan_for c ks in
    Some (fit_search c ks ws weights).counts.passes (λ q. (i j : ℕ) → i < c.grid → j < c.grid → (cell_at f (after_passes f p q).window c.grid i j).some ≡ false)

-- 7: the best point stands on an edge of its pass's grid
abbrev pub OnEdge : FitConfig → List Float → List Float → List Float → Type 0
OnEdge c ks ws weights = (fit_search c ks ws weights).found.on_edge ≡ true

-- ---- the fit

-- when number n is asked, counted from 0: 12, 11, 10, then 1 to 9
abbrev pub turn : ℕ → ℕ
turn n = cond (leb 10 n) (12 - n) (n + 2)

module _ (tau : Float) (c : FitConfig) (ks ws weights : List Float) (room slots : ℕ) where
  -- the slice that the fit tries
  abbrev pub tried : SviSlice
  tried = slice_from tau c (range_of ks) (a_max_for c ws) (search_for c ks ws weights).found

  -- the condition of refusal n holds
  pub data Fails (n : ℕ) : Type 0 where
    at_entry : EntryFails tau c ks ws weights room slots n → Fails n
    no_face : n ≡ 6 → FacelessPass c ks ws (scaled_for c weights) → Fails n
    on_edge : n ≡ 7 → OnEdge c ks ws (scaled_for c weights) → Fails n
    out_of_domain : n ≡ 8 → OutOfDomain c tried ks ws (scaled_for c weights) (a_max_for c ws) (search_for c ks ws weights).found.cell.objective → Fails n
    rmse_high : n ≡ 9 → RmseAboveMax c tried ks ws (scaled_for c weights) → Fails n

  -- none of the conditions asked before n's holds
  abbrev pub NoneBefore : ℕ → Type 0
  NoneBefore n = (m : ℕ) → turn m < turn n → ¬ Fails m

  -- what refusal n hands back: zeros, but for 3 the observations given and wanted, for 9 rmse_vol as worked out and the largest accepted, for 6 to 9 the counts of the search
  unfoldable pub refusal_answer : ℕ → FitAnswer
  refusal_answer n =
      refused_with n (cond (eqb n 3) (length ks) 0) (cond (eqb n 3) c.min_observations 0)
      (cond (eqb n 9) (rmse_at tried ks ws (scaled_for c weights)) +0) (cond (eqb n 9) c.max_rmse_vol +0)
      (cond (leb 6 n && leb n 9) (search_for c ks ws weights).counts no_counts)
