-- What a refused fit hands back: its number, the values named for it, the counts of the search for 6 to 9, and zeros in every other field. An accepted fit has a finite rmse_vol of at most max_rmse_vol.
use mathlib.Core.Path.{◌≡◌, refl, sym, ap, ◌∙◌}
use mathlib.Core.Bool.{true}
use mathlib.Core.List.{List}
use Prim.Native.Nat.{ℕ}
use native.Mathlib.Omega.{arith}
use lib.Dec.{eqb, leb}
use lib.ListN.{length}
use lib.Ieee.{Float, le}
use borrow.Author.Tests.{eqb-true, eqb-false}
use Rattle.moves.specs.Moves.{is_refused}
use Rattle.laws.specs.Floats.{+0, finite, positive}
use Rattle.laws.proofs.Choices.{both, cond_ind, cond_test}
use Rattle.slice.specs.Slice.{number_of}
use Rattle.records.specs.declared.Counts.{Counts}
use Rattle.weights.specs.Weights.{all_good, capped_of}
use Rattle.records.specs.declared.FitConfig.{FitConfig}
use Rattle.records.specs.declared.FitAnswer.{FitAnswer}
use Rattle.records.specs.Answer.{no_counts, refused_with, refused_after}
use Rattle.records.specs.Settings.{settings_hold, sizes_hold}
use Rattle.entry.specs.Entry.{range_of, lengths_hold, columns_pass, span_of, checks_number, entry_number}
use Rattle.judge.specs.Judge.{sums_of, params_hold, rmse_holds}
use Rattle.calibrate.specs.End.{accepted_of, end_of}
use Rattle.calibrate.specs.Fit.{a_max_for, scaled_for, search_for, slice_from, best_end, search_end, decided_of, refused_early, capped_as, fit_of}
use Rattle.calibrate.specs.When.{refusal_answer}
use Rattle.judge.specs.When.{rmse_at}

module _ (tau : Float) (c : FitConfig) (ks ws weights : List Float) (room slots : ℕ) where
  abbrev pub answer : FitAnswer
  answer = fit_of tau c ks ws weights room slots

  abbrev pub scaled : List Float
  scaled = scaled_for c weights

  -- rmse_vol of the slice that the fit tries, as worked out
  abbrev pub rmse : Float
  rmse = rmse_at (slice_from tau c (range_of ks) (a_max_for c ws) (search_for c ks ws weights).found) ks ws scaled

  abbrev pub counts : Counts
  counts = (search_for c ks ws weights).counts

  abbrev refusal : ℕ → FitAnswer
  refusal = refusal_answer tau c ks ws weights room slots

  -- ---- the entry

  abbrev entry : ℕ
  entry = entry_number tau c ks ws weights room slots

  abbrev Early : ℕ → Type 0
  Early n = ¬ (n ≡ 0) → refused_early n (length ks) c.min_observations ≡ refusal n

  early : Early entry
  unfolding entry_number checks_number refusal_answer
  early =
      cond_ind Early (eqb (checks_number tau c ks ws weights room slots) 0)
      (cond_ind Early (all_good scaled) (λ h. absurd (h refl)) (λ h. refl))
      (cond_ind Early (lengths_hold ks ws weights room slots)
      (cond_ind Early (sizes_hold (length ks) c)
      (cond_ind Early (columns_pass ks ws weights)
      (cond_ind Early (settings_hold c)
      (cond_ind Early (positive tau)
      (cond_ind Early (leb c.min_observations (length ks))
      (cond_ind Early (positive (span_of ks)) (λ h. absurd (h refl)) (λ h. refl))
      (λ h. refl)) (λ h. refl)) (λ h. refl)) (λ h. refl)) (λ h. refl)) (λ h. refl))

  -- ---- the end

  abbrev Good : FitAnswer → Type 0
  Good a = (finite a.rmse_vol ≡ true) × (le a.rmse_vol c.max_rmse_vol ≡ true)

  -- a refusal is as it is said, and an accepted answer has a good rmse_vol
  record Late (a : FitAnswer) : Type 0 where
    refused : ¬ (a.number ≡ 0) → a ≡ refusal a.number
    accepted : a.number ≡ 0 → Good a

  abbrev decided : FitAnswer
  decided = decided_of tau c ks ws scaled

  late : Late decided
  unfolding decided_of search_end best_end end_of refusal_answer refused_with accepted_of rmse_holds
  late =
      let t = slice_from tau c (range_of ks) (a_max_for c ws) (search_for c ks ws weights).found in
      cond_ind Late (is_refused (search_for c ks ws weights)) (record { refused = λ h. refl; accepted = λ e. absurd (omega arith) })
      (cond_ind Late (search_for c ks ws weights).found.on_edge (record { refused = λ h. refl; accepted = λ e. absurd (omega arith) })
      (cond_ind Late (eqb (number_of t) 0)
      (cond_ind Late (params_hold c (a_max_for c ws) (search_for c ks ws weights).found.cell.objective (sums_of t ks ws scaled))
      (cond_test Late (rmse_holds c rmse)
      (λ e. record { refused = λ h. absurd (h refl); accepted = λ z. both (finite rmse) (le rmse c.max_rmse_vol) e })
      (λ e. record { refused = λ h. refl; accepted = λ e. absurd (omega arith) }))
      (record { refused = λ h. refl; accepted = λ e. absurd (omega arith) }))
      (record { refused = λ h. refl; accepted = λ e. absurd (omega arith) })))

  -- ---- the theorems

  -- an answer is a refusal of the entry, a refusal of the end, or an accepted one with how many weights were capped
  kinds :
      (P : FitAnswer → Type 0) → (¬ (entry ≡ 0) → P (refused_early entry (length ks) c.min_observations)) → (¬ (decided.number ≡ 0) → P decided)
      → (decided.number ≡ 0 → P (capped_as decided (length (capped_of c.max_weight_ratio weights)))) → P answer
  unfolding fit_of
  kinds P x y z =
      cond_test P (eqb entry 0) (λ e. cond_test P (eqb decided.number 0) (λ e. z (eqb-true _ _ e)) (λ e. y (eqb-false _ _ e))) (λ e. x (eqb-false _ _ e))

  -- every refusal: its number decides what is in it
  pub refusal_carries : ¬ (answer.number ≡ 0) → answer ≡ refusal_answer tau c ks ws weights room slots answer.number
  unfolding refused_with capped_as
  refusal_carries = kinds (λ (a : FitAnswer). ¬ (a.number ≡ 0) → a ≡ refusal a.number) (λ z h. early z) (λ z h. late.refused z) (λ z h. absurd (h z))

  carries : (n : ℕ) → ¬ (n ≡ 0) → answer.number ≡ n → answer ≡ refusal n
  carries n z e = refusal_carries (λ y. z (sym e ∙ y)) ∙ ap refusal e

  -- 3: how many observations were given and wanted
  pub carries_3 : answer.number ≡ 3 → answer ≡ refused_with 3 (length ks) c.min_observations +0 +0 no_counts
  unfolding refusal_answer
  carries_3 = carries 3 (λ z. omega arith)

  -- 8: nothing but the counts of the search
  pub carries_8 : answer.number ≡ 8 → answer ≡ refused_after 8 counts
  unfolding refusal_answer
  carries_8 = carries 8 (λ z. omega arith)

  -- 9: rmse_vol as worked out, which may be a NaN, and the largest that is accepted
  pub carries_9 : answer.number ≡ 9 → answer ≡ refused_with 9 0 0 rmse c.max_rmse_vol counts
  unfolding refusal_answer
  carries_9 = carries 9 (λ z. omega arith)

  -- an accepted fit has a finite rmse_vol of at most max_rmse_vol: a NaN is never accepted
  pub accepted_rmse : answer.number ≡ 0 → (finite answer.rmse_vol ≡ true) × (le answer.rmse_vol c.max_rmse_vol ≡ true)
  unfolding refused_with capped_as
  accepted_rmse = kinds (λ (a : FitAnswer). a.number ≡ 0 → Good a) (λ z h. absurd (z h)) (λ z h. absurd (z h)) (λ z h. late.accepted z)
