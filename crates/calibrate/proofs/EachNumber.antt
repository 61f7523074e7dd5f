-- The number of every answer as one chain of tests in document 01's order, and what each kind of answer is. `ExactlyWhen` says the same by conditions.
use mathlib.Core.Path.{◌≡◌, refl, sym, ap, ◌∙◌}
use mathlib.Core.Bool.{Bool, true, false, cond}
use mathlib.Core.List.{List}
use Prim.Native.Nat.{ℕ}
use lib.Dec.{eqb}
use lib.ListN.{length}
use lib.Ieee.{Float}
use borrow.Author.Tests.{ne_eqb}
use Rattle.laws.specs.Choice.{unless}
use Rattle.laws.proofs.Choices.{if_false}
use Rattle.slice.specs.declared.SviSlice.{SviSlice}
use Rattle.slice.specs.Slice.{number_of}
use Rattle.moves.specs.declared.Search.{Search}
use Rattle.moves.specs.Moves.{is_refused}
use Rattle.weights.specs.Weights.{capped_of}
use Rattle.records.specs.declared.FitConfig.{FitConfig}
use Rattle.records.specs.declared.FitAnswer.{FitAnswer}
use Rattle.records.specs.Answer.{refused_with}
use Rattle.judge.specs.declared.Sums.{Sums}
use Rattle.entry.specs.Entry.{range_of, entry_number}
use Rattle.judge.specs.Judge.{sums_of, params_hold, rmse_of, rmse_holds}
use Rattle.calibrate.specs.End.{accepted_of, end_of}
use Rattle.calibrate.specs.Fit.{a_max_for, fit_search, scaled_for, slice_from, best_end, search_end, decided_of, refused_early, capped_as, fit_of}

-- a function of a choice is the choice of its values
of_cond : {A B : Type 0} (f : A → B) (b : Bool) (x y : A) → f (cond b x y) ≡ cond b (f x) (f y)
of_cond f true x y = refl
of_cond f false x y = refl

module _ (tau : Float) (c : FitConfig) (ks ws weights : List Float) where
  -- what the search found, and the slice there
  abbrev found : Search
  found = fit_search c ks ws weights

  abbrev fitted : SviSlice
  fitted = slice_from tau c (range_of ks) (a_max_for c ws) found.found

  abbrev sums : Sums
  sums = sums_of fitted ks ws weights

  abbrev rmse : Float
  rmse = rmse_of sums (length ks)

  -- 6, 7, 8, 9, or 0
  unfoldable pub late_number : ℕ
  late_number =
      cond (is_refused found) 6
      (cond found.found.on_edge 7
      (unless (eqb (number_of fitted) 0) 8
      (unless (params_hold c (a_max_for c ws) found.found.cell.objective sums) 8
      (unless (rmse_holds c rmse) 9
      0))))

  pub late_number_lem : (decided_of tau c ks ws weights).number ≡ late_number
  unfolding decided_of search_end best_end end_of refused_with accepted_of late_number
  late_number_lem =
      let n : FitAnswer → ℕ = λ a. a.number in
      let o = found.found.cell.objective in
      of_cond n (is_refused found) _ _
      ∙ ap (cond (is_refused found) 6)
      (of_cond n found.found.on_edge _ _
      ∙ ap (cond found.found.on_edge 7)
      (of_cond n (eqb (number_of fitted) 0) _ _
      ∙ ap (unless (eqb (number_of fitted) 0) 8)
      (of_cond n (params_hold c (a_max_for c ws) o sums) _ _
      ∙ ap (unless (params_hold c (a_max_for c ws) o sums) 8)
      (of_cond n (rmse_holds c rmse) _ _))))

module _ (tau : Float) (c : FitConfig) (ks ws weights : List Float) (room slots : ℕ) where
  abbrev pub entry : ℕ
  entry = entry_number tau c ks ws weights room slots

  abbrev pub scaled : List Float
  scaled = scaled_for c weights

  abbrev decided : FitAnswer
  decided = decided_of tau c ks ws scaled

  same_number : (a : FitAnswer) (m : ℕ) (t : Bool) → (cond t (capped_as a m) a).number ≡ a.number
  unfolding capped_as
  same_number a m true = refl
  same_number a m false = refl

  -- 12, 11, 10, 1, 2, 3, 4, 5 from the entry checks; where none of them fails, 6 to 9 or 0
  pub answer_number : (fit_of tau c ks ws weights room slots).number ≡ unless (eqb entry 0) entry (late_number tau c ks ws scaled)
  unfolding fit_of refused_with
  answer_number =
      of_cond (λ (a : FitAnswer). a.number) (eqb entry 0) _ _
      ∙ ap (unless (eqb entry 0) entry) (same_number decided (length (capped_of c.max_weight_ratio weights)) (eqb decided.number 0) ∙ late_number_lem tau c ks ws scaled)

  -- a refusal of the entry checks carries nothing but 3's values
  pub early_answer : (entry ≡ 0 → ⊥) → fit_of tau c ks ws weights room slots ≡ refused_early entry (length ks) c.min_observations
  unfolding fit_of
  early_answer h = sym (if_false _ (ne_eqb entry 0 h) refl)
