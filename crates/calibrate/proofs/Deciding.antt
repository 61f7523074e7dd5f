-- The answer as the code works it out is the one defined. Assumes nothing.
use mathlib.Core.Path.{◌≡◌, refl, sym, ap, ◌∙◌}
use mathlib.Core.Bool.{true}
use mathlib.Core.List.{List}
use lib.Ieee.{Float}
use borrow.Author.Tests.{le-leb}
use Rattle.laws.proofs.Choices.{if_true}
use Rattle.cell.specs.declared.Limits.{Limits}
use Rattle.slice.specs.declared.KRange.{KRange}
use Rattle.moves.specs.declared.Plan.{Plan}
use Rattle.moves.specs.declared.Search.{Search}
use Rattle.search.specs.Search.{start_of, search_of}
use Rattle.search.specs.Run.{fit_cell, plan_sizes_hold, planned_search}
use Rattle.records.specs.declared.FitConfig.{FitConfig}
use Rattle.entry.specs.Entry.{range_of}
use Rattle.judge.specs.Judge.{highest_of}
use Rattle.calibrate.specs.Fit.{plan_of, limits_of, fit_search, search_end, decided_of}
use Rattle.entry.specs.Sized.{Sized}

module _ (tau : Float) (c : FitConfig) (ks ws weights : List Float) (s : Sized c ks ws weights) where
  -- within the sizes the search is run
  sizes_hold_lem : (range : KRange) → plan_sizes_hold (plan_of c range) ≡ true
  unfolding plan_sizes_hold plan_of
  sizes_hold_lem range = rw (le-leb c.grid 255 s.grid, le-leb c.refinements 1000 s.refinements, le-leb c.max_recentres 1000 s.recentres)

  run_is : (l : Limits) (range : KRange) → planned_search ks ws weights l (plan_of c range) ≡ search_of (fit_cell ks ws weights l) (plan_of c range)
  unfolding planned_search
  run_is l range = sym (if_true (start_of (plan_of c range)) (sizes_hold_lem range) refl)

  pub decided_is :
      (range : KRange) (high : Float) (plan : Plan) (limits : Limits) (r : Search)
      → range ≡ range_of ks → high ≡ highest_of ws c.a_min → plan ≡ plan_of c range → limits ≡ limits_of c high → r ≡ planned_search ks ws weights limits plan
      → search_end tau c range high r ks ws weights ≡ decided_of tau c ks ws weights
  unfolding decided_of fit_search
  decided_is range high plan limits r e1 e2 e3 e4 e5 =
      let p : plan ≡ plan_of c (range_of ks) = e3 ∙ ap (plan_of c) e1 in
      let l : limits ≡ limits_of c (highest_of ws c.a_min) = e4 ∙ ap (limits_of c) e2 in
      let found : r ≡ search_of (fit_cell ks ws weights (limits_of c (highest_of ws c.a_min))) (plan_of c (range_of ks)) =
      e5 ∙ ap (λ (x : Limits). planned_search ks ws weights x plan) l ∙ ap (planned_search ks ws weights (limits_of c (highest_of ws c.a_min))) p ∙ run_is (limits_of c (highest_of ws c.a_min)) (range_of ks) in
      λ i. search_end tau c (e1 i) (e2 i) (found i) ks ws weights
