-- What is told of a fit settles the fit: no two have one answer. What `?` hands on. Assumes nothing.
use mathlib.Core.Path.{◌≡◌, refl, sym, ap, ◌∙◌}
use mathlib.Core.Bool.{true, false}
use Prim.Native.Nat.{ℕ}
use Rattle.std.specs.Prelude.{Result, Ok, Err, IsErrAnd}
use Rattle.refusals.specs.declared.Refusal.{Refusal}
use Rattle.refusals.specs.Numbers.{refusal_number}
use Rattle.refusals.proofs.Numbers.{one_answer, refuses_some}
use Rattle.records.specs.declared.SliceFit.{SliceFit}
use Rattle.records.specs.declared.FitFailure.{FitFailure}
use Rattle.records.specs.declared.FitAnswer.{FitAnswer}
use Rattle.records.specs.Answer.{refused_with, failure_answer, answer_in}

-- no two refusals have one number
abbrev refusal_in : Refusal → Result (Unit {0}) Refusal → Refusal
refusal_in none (Ok a) = none
refusal_in none (Err e) = e

pub one_refusal : (d e : Refusal) → refusal_number d ≡ refusal_number e → d ≡ e
one_refusal d e h = ap (refusal_in d) (one_answer {A = Unit {0}} {x = Err d} {y = Err e} (ap Err h) refl)

-- the accepted fit of which an answer is told, and the refusal
abbrev fit_told : FitAnswer → SliceFit
fit_told a =
    record {
      slice = a.slice;
      rmse_vol = a.rmse_vol;
      objective = a.objective;
      objective_params = a.objective_params;
      lee_margin = a.lee_margin;
      a_margin = a.a_margin;
      active = a.active;
      counts = a.counts;
      capped = a.capped;
    }

abbrev failure_told : Refusal → FitAnswer → FitFailure
failure_told why a =
    record {
      why = why;
      observed = a.observed;
      required = a.required;
      rmse_vol = a.rmse_vol;
      max_rmse_vol = a.max_rmse_vol;
      counts = a.counts;
    }

failures_alike : (d e : FitFailure) → failure_answer d ≡ failure_answer e → d ≡ e
unfolding refused_with
failures_alike d e h =
    ap (λ (w : Refusal). failure_told w (failure_answer d)) (one_refusal d.why e.why (ap (λ (a : FitAnswer). a.number) h))
    ∙ ap (λ (a : FitAnswer). failure_told e.why a) h

told_alike : (x y : Result SliceFit FitFailure) → answer_in x ≡ answer_in y → x ≡ y
unfolding refused_with
told_alike (Ok f) (Ok g) h = ap (λ (a : FitAnswer). Ok (fit_told a)) h
told_alike (Ok f) (Err e) h = absurd (refuses_some e.why (sym (ap (λ (a : FitAnswer). a.number) h)))
told_alike (Err d) (Ok g) h = absurd (refuses_some d.why (ap (λ (a : FitAnswer). a.number) h))
told_alike (Err d) (Err e) h = ap Err (failures_alike d e h)

pub one_failure : {x y : FitFailure} {z : FitAnswer} → failure_answer x ≡ z → failure_answer y ≡ z → x ≡ y
one_failure {x} {y} h k = failures_alike x y (h ∙ sym k)

pub one_fit : {x y : Result SliceFit FitFailure} {z : FitAnswer} → answer_in x ≡ z → answer_in y ≡ z → x ≡ y
one_fit {x} {y} h k = told_alike x y (h ∙ sym k)

-- a refusal is handed on as it is
pub handed_on : (r : Result SliceFit FitFailure) (e : FitFailure) → IsErrAnd r (λ y. y ≡ e) → answer_in r ≡ failure_answer e
handed_on (Ok f) e i = absurd i
handed_on (Err d) e i = ap failure_answer i
