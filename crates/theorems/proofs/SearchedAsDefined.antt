-- Demand 3, of every fit that passes the entry checks: the counts are those of the search as defined, within its bounds, and no qualifying face tried has a smaller objective than the one chosen.
use mathlib.Core.Path.{◌≡◌, refl, sym, ◌∙◌}
use mathlib.Core.Bool.{Bool, true, false, cond}
use mathlib.Core.List.{List}
use Prim.Native.Nat.{ℕ}
use native.Mathlib.Omega.{arith}
use lib.Dec.{eqb}
use lib.ListN.{length}
use lib.Ieee.{Float}
use borrow.Author.Tests.{eq-eqb, le-leb}
use Rattle.moves.specs.Moves.{is_refused}
use Rattle.laws.proofs.Choices.{cond_ind, cond_test, false_true}
use Rattle.slice.specs.declared.SviSlice.{SviSlice}
use Rattle.slice.specs.Slice.{number_of}
use Rattle.cell.specs.Cell.{in_range}
use Rattle.moves.specs.declared.Search.{Search}
use Rattle.search.specs.Promised.{Promised}
use Rattle.search.specs.Run.{fit_cell, fit_face, fit_updates}
use Rattle.search.proofs.FitCells.{fit_chosen}
use Rattle.theorems.proofs.NoBetterFace.{no_better_face}
use Rattle.weights.specs.Weights.{scaled_of, capped_of}
use Rattle.weights.proofs.Places.{scaled_length}
use Rattle.records.specs.declared.FitConfig.{FitConfig}
use Rattle.records.specs.declared.FitAnswer.{FitAnswer}
use Rattle.records.specs.Answer.{refused_with, refused_after}
use Rattle.judge.specs.declared.Sums.{Sums}
use Rattle.entry.specs.Sized.{Sized}
use Rattle.entry.specs.Entry.{range_of, entry_number}
use Rattle.calibrate.specs.End.{accepted_of, end_of}
use Rattle.judge.specs.Judge.{sums_of, params_hold, rmse_of, rmse_holds}
use Rattle.calibrate.specs.Fit.{scaled_for, a_max_for, limits_for, plan_for, search_for, active_from, slice_from, fit_search, best_end, search_end, decided_of, capped_as, fit_of}
use Rattle.calibrate.specs.Searched.{FromFound, Searched}
use Rattle.entry.proofs.Known.{passed, entered}

-- the scaled weights are as many as the observations, in the range of a cell
in_range_lem : (c : FitConfig) (ks ws weights : List Float) → Sized c ks ws weights → in_range ks ws (scaled_of c.max_weight_ratio weights) ≡ true
in_range_lem c ks ws weights s =
    let r = c.max_weight_ratio in
    rw (le-leb (length ks) 256 s.most, eq-eqb (length ws) (length ks) s.ws_long, eq-eqb (length (scaled_of r weights)) (length ks) (scaled_length r weights ∙ s.weights_long))

module _ (tau : Float) (c : FitConfig) (ks ws weights : List Float) where
  abbrev s : Search
  s = search_for c ks ws weights

  abbrev active : List Bool
  active = active_from c (a_max_for c ws) s.found

  abbrev slice : SviSlice
  slice = slice_from tau c (range_of ks) (a_max_for c ws) s.found

  abbrev sums : Sums
  sums = sums_of slice ks ws (scaled_for c weights)

  abbrev rmse : Float
  rmse = rmse_of sums (length ks)

  abbrev done : FitAnswer
  done = capped_as (accepted_of c s.counts s.found.cell.objective active slice sums.params rmse) (length (capped_of c.max_weight_ratio weights))

  -- the answers of a fit that passes the entry checks: what holds of each of them holds of its answer
  module _
      (P : FitAnswer → Type 0)
      (six : is_refused s ≡ true → P (refused_after 6 s.counts))
      (seven : is_refused s ≡ false → P (refused_after 7 s.counts))
      (eight : is_refused s ≡ false → P (refused_after 8 s.counts))
      (nine : is_refused s ≡ false → P (refused_with 9 0 0 rmse c.max_rmse_vol s.counts))
      (none : is_refused s ≡ false → s.found.on_edge ≡ false → P done) where
    -- of a, with its capped positions where it is accepted
    abbrev Of : FitAnswer → Type 0
    Of a = P (cond (eqb a.number 0) (capped_as a (length (capped_of c.max_weight_ratio weights))) a)

    of_decided : Of (decided_of tau c ks ws (scaled_for c weights))
    unfolding decided_of search_end best_end end_of refused_with accepted_of
    of_decided =
        cond_test Of (is_refused s) six
        (λ r.
        cond_test Of s.found.on_edge (λ e. seven r)
        (λ e.
        cond_ind Of (eqb (number_of slice) 0)
        (cond_ind Of (params_hold c (a_max_for c ws) s.found.cell.objective sums)
        (cond_ind Of (rmse_holds c rmse) (none r e) (nine r))
        (eight r))
        (eight r)))

    of_fit : (room slots : ℕ) → entry_number tau c ks ws weights room slots ≡ 0 → P (fit_of tau c ks ws weights room slots)
    unfolding fit_of
    of_fit room slots h = rw h of_decided

module _ (tau : Float) (c : FitConfig) (ks ws weights : List Float) (room slots : ℕ) where
  -- the number, the counts and what an accepted answer is made from, of every answer
  record Ends (a : FitAnswer) : Type 0 where
    counts : a.counts ≡ (search_for c ks ws weights).counts
    refuses : is_refused (search_for c ks ws weights) ≡ true → a.number ≡ 6
    refused : a.number ≡ 6 → is_refused (search_for c ks ws weights) ≡ true
    accepted : a.number ≡ 0 → FromFound tau c ks ws (search_for c ks ws weights) a

  ends : entry_number tau c ks ws weights room slots ≡ 0 → Ends (fit_of tau c ks ws weights room slots)
  unfolding refused_with accepted_of capped_as
  ends =
      of_fit tau c ks ws weights Ends
      (λ r. record { counts = refl; refuses = λ e. refl; refused = λ e. r; accepted = λ e. absurd (omega (arith, e)) })
      (λ r. record { counts = refl; refuses = λ e. false_true (sym r ∙ e); refused = λ e. absurd (omega (arith, e)); accepted = λ e. absurd (omega (arith, e)) })
      (λ r. record { counts = refl; refuses = λ e. false_true (sym r ∙ e); refused = λ e. absurd (omega (arith, e)); accepted = λ e. absurd (omega (arith, e)) })
      (λ r. record { counts = refl; refuses = λ e. false_true (sym r ∙ e); refused = λ e. absurd (omega (arith, e)); accepted = λ e. absurd (omega (arith, e)) })
      (λ r i.
      record {
        counts = refl;
        refuses = λ e. false_true (sym r ∙ e);
        refused = λ e. absurd (omega (arith, e));
        accepted = λ e. record { found = r; inside = i; objective = refl; active = refl; slice = refl };
      }) room slots

  search_promised : entry_number tau c ks ws weights room slots ≡ 0
      → Promised (fit_cell ks ws (scaled_for c weights) (limits_for c ws)) (fit_face ks ws (scaled_for c weights) (limits_for c ws)) (fit_updates ks ws (scaled_for c weights) (limits_for c ws)) 64 3438 (plan_for c ks)
      (search_for c ks ws weights)
  unfolding fit_search
  search_promised h =
      let p = passed tau c ks ws weights room slots (entered tau c ks ws weights room slots h).0 in
      no_better_face _ _ _ 64 3438 (fit_chosen ks ws (scaled_for c weights) (limits_for c ws) (in_range_lem c ks ws weights p.sized)) (plan_for c ks)

  pub searched_as_defined : entry_number tau c ks ws weights room slots ≡ 0 → Searched tau c ks ws weights (fit_of tau c ks ws weights room slots)
  searched_as_defined h =
      let e = ends h in
      record { counts = e.counts; search = search_promised h; refuses = e.refuses; refused = e.refused; accepted = e.accepted }
