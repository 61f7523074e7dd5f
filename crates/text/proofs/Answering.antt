-- Which of its forms an answer has, by the tests that the code makes. Assumes nothing.
use Prim.Native.Nat.{ℕ}
use mathlib.Core.Path.{◌≡◌, ap}
use mathlib.Core.Bool.{Bool, true, false, ◌&&◌, cond}
use mathlib.Core.List.{List, [], ◌++◌}
use lib.Dec.{leb}
use lib.ListN.{length}
use lib.Ieee.{Float}
use borrow.Author.Tests.{eq-eqb, ne_eqb}
use Rattle.laws.specs.Choice.{unless}
use Rattle.records.specs.declared.FitAnswer.{FitAnswer}
use Rattle.text.specs.Lines.{search_line, refused_line, refused_floats}
use Rattle.text.specs.Answers.{is_late, refused_of, refusal_text, full_text, accepted_text}

module _ (a : FitAnswer) where
  pub refused_nine : a.number ≡ 9 → refused_of a ≡ refused_floats a.rmse_vol a.max_rmse_vol
  unfolding refused_of
  refused_nine e = ap (λ (b : Bool). cond b (refused_floats a.rmse_vol a.max_rmse_vol) (refused_line a.number a.observed a.required)) (eq-eqb a.number 9 e)

  pub refused_other : (a.number ≡ 9 → ⊥) → refused_of a ≡ refused_line a.number a.observed a.required
  unfolding refused_of
  refused_other h = ap (λ (b : Bool). cond b (refused_floats a.rmse_vol a.max_rmse_vol) (refused_line a.number a.observed a.required)) (ne_eqb a.number 9 h)

  pub refusal_early : is_late a.number ≡ false → refusal_text a ≡ refused_of a
  unfolding refusal_text
  refusal_early e = ap (λ (b : Bool). cond b (search_line a.counts) [] ++ refused_of a) e

  pub refusal_late : is_late a.number ≡ true → refusal_text a ≡ search_line a.counts ++ refused_of a
  unfolding refusal_text
  refusal_late e = ap (λ (b : Bool). cond b (search_line a.counts) [] ++ refused_of a) e

module _ (read kept : ℕ) (a : FitAnswer) (residuals : List Float) (capped : List ℕ) where
  pub too_many : (leb (length residuals) 1024 && leb (length capped) 256) ≡ false → accepted_text read kept a residuals capped ≡ []
  unfolding accepted_text
  too_many e = ap (λ (b : Bool). unless b [] (full_text read kept a residuals capped)) e

  pub accepted_full : (leb (length residuals) 1024 && leb (length capped) 256) ≡ true → accepted_text read kept a residuals capped ≡ full_text read kept a residuals capped
  unfolding accepted_text
  accepted_full e = ap (λ (b : Bool). unless b [] (full_text read kept a residuals capped)) e
