-- `calibrate::fit_slice` meets its contract. Assumes nothing.
use mathlib.Core.Path.{◌≡◌, refl, sym, ap, ◌∙◌}
use Prim.Native.Nat.{ℕ}
use lib.ListN.{length}
use borrow.Author.Tests.{not-true, not-false}
use Rattle.laws.proofs.Choices.{number_stops, number_goes, number_no}
use Rattle.weights.specs.Weights.{scaled_of}
use Rattle.records.specs.declared.Counts.{Counts}
use Rattle.records.specs.declared.FitAnswer.{FitAnswer}
use Rattle.records.specs.Answer.{no_counts, refused_with, refused_after, accepted_answer, failure_answer, answer_in}
use Rattle.records.proofs.Fits.{handed_on}
use Rattle.calibrate.specs.Fit.{refused_early, decided_of, capped_as, fit_of}
use Rattle.entry.proofs.Known.{passed, entry_first, entry_five, entry_none, ok_is, cap_is, taken, scaled_long, scaled_within}
use Rattle.refusals.proofs.Numbers.{check_stops, refuses_some}
use Rattle.calibrate.proofs.Contract.{refuses, accepts}
use native.Mathlib.Omega.{arith}
use Rattle.calibrate.proofs.fit_slice.Goals as goal

-- the counts of no pass
zeros : {n : Counts} → (n.passes ≡ 0) × ((n.recentres ≡ 0) × ((n.shrinks ≡ 0) × ((n.cells ≡ 0) × ((n.faces ≡ 0) × (n.updates ≡ 0))))) → n ≡ no_counts
zeros h = λ i. record { passes = h.0 i; recentres = h.1.0 i; shrinks = h.1.1.0 i; cells = h.1.1.1.0 i; faces = h.1.1.1.1.0 i; updates = h.1.1.1.1.1 i }

pub returns-in-Err : goal.returns-in-Err
unfolding fit_of refused_with
returns-in-Err c = let a = c.args in
    let e = c.in-Err.ensures in
    refuses
    (c.refused_early.ensures
    ∙ check_stops _ (λ (n : ℕ). refused_early n (length a.k.now) a.config.min_observations) c.in-Err.why (e ∙ entry_first a.tau a.config a.k.now a.w.now a.weight.now _ _ (λ z. refuses_some c.in-Err.why (e ∙ z))))
    (refuses_some c.refused_early.result.why)

pub returns-then-not-scaled : goal.returns-then-not-scaled
unfolding fit_of refused_with
returns-then-not-scaled c = let a = c.args in
    let s = (passed a.tau a.config a.k.now a.w.now a.weight.now _ _ (sym c.in_default.ensures)).sized in
    refuses
    (c.after.ensures ∙ ap (refused_after 5) (zeros c.default.ensures)
    ∙ number_no _ (λ (n : ℕ). refused_early n (length a.k.now) a.config.min_observations) (entry_five a.tau a.config a.k.now a.w.now a.weight.now _ _ (sym c.in_default.ensures) (sym (ok_is a.config.max_weight_ratio a.config a.k.now a.w.now a.weight.now s c.weights_of-scaled.result c.weights_of-scaled.ensures.value) ∙ not-true _ c.if-not-scaled.true)) (λ z. omega arith))
    (refuses_some c.after.result.why)

pub slice_bounds-room-end : goal.slice_bounds-room-end
slice_bounds-room-end c = let a = c.args in
    let s = (passed a.tau a.config a.k.now a.w.now a.weight.now _ _ (sym c.in_default.ensures)).sized in
    scaled_within a.config.max_weight_ratio a.config a.k.now a.w.now a.weight.now s _ _ c.weights_of-scaled.ensures.room_after

pub slice_bounds-decided-end : goal.slice_bounds-decided-end
slice_bounds-decided-end c = let a = c.args in
    let s = (passed a.tau a.config a.k.now a.w.now a.weight.now _ _ (sym c.in_default.ensures)).sized in
    sym (scaled_long a.config.max_weight_ratio a.config a.k.now a.w.now a.weight.now s _ _ c.weights_of-scaled.ensures.room_after)

pub decided-requires : goal.decided-requires
decided-requires c = let a = c.args in
    let s = (passed a.tau a.config a.k.now a.w.now a.weight.now _ _ (sym c.in_default.ensures)).sized in
    record {
      least = s.least;
      most = s.most;
      ws_long = s.ws_long;
      weights_long = scaled_long a.config.max_weight_ratio a.config a.k.now a.w.now a.weight.now s _ _ c.weights_of-scaled.ensures.room_after ∙ s.weights_long;
      grid = s.grid;
      refinements = s.refinements;
      recentres = s.recentres;
    }

pub returns-in_err-fit : goal.returns-in_err-fit
unfolding fit_of refused_with
returns-in_err-fit c = let a = c.args in
    let s = (passed a.tau a.config a.k.now a.w.now a.weight.now _ _ (sym c.in_default.ensures)).sized in
    let e : failure_answer c.in_err-fit.field-0.0 ≡ decided_of a.tau a.config a.k.now a.w.now (scaled_of a.config.max_weight_ratio a.weight.now) =
    c.in_err-fit.ensures ∙ ap (decided_of a.tau a.config a.k.now a.w.now) (taken a.config.max_weight_ratio a.config a.k.now a.w.now a.weight.now s _ _ c.weights_of-scaled.ensures.room_after) in
    let h : answer_in c.from_residual.result ≡ failure_answer c.in_err-fit.field-0.0 = handed_on c.from_residual.result c.in_err-fit.field-0.0 c.from_residual.ensures.1 in
    let n : (answer_in c.from_residual.result).number ≡ 0 → ⊥ = λ z. refuses_some c.in_err-fit.field-0.0.why (sym (ap (λ (r : FitAnswer). r.number) h) ∙ z) in
    refuses
    (number_goes _ (entry_none a.tau a.config a.k.now a.w.now a.weight.now _ _ (sym c.in_default.ensures) (sym (ok_is a.config.max_weight_ratio a.config a.k.now a.w.now a.weight.now s c.weights_of-scaled.result c.weights_of-scaled.ensures.value) ∙ not-false _ c.if-not-scaled.false)) refl
    (number_stops _ (ap (λ (r : FitAnswer). r.number) (h ∙ e)) n (h ∙ e)))
    n

pub write_residuals-requires : goal.write_residuals-requires
write_residuals-requires c = let a = c.args in
    let p = passed a.tau a.config a.k.now a.w.now a.weight.now _ _ (sym c.in_default.ensures) in
    (p.sized.ws_long, omega (arith, p.sized.most, p.rooms))

pub list_capped-m-requires : goal.list_capped-m-requires
list_capped-m-requires c = let a = c.args in
    let p = passed a.tau a.config a.k.now a.w.now a.weight.now _ _ (sym c.in_default.ensures) in
    omega (arith, p.sized.weights_long, p.places)

pub returns : goal.returns
unfolding capped_as
returns c = let a = c.args in
    let s = (passed a.tau a.config a.k.now a.w.now a.weight.now _ _ (sym c.in_default.ensures)).sized in
    let e : accepted_answer c.in_ok-fit.fit ≡ decided_of a.tau a.config a.k.now a.w.now (scaled_of a.config.max_weight_ratio a.weight.now) =
    c.in_ok-fit.ensures ∙ ap (decided_of a.tau a.config a.k.now a.w.now) (taken a.config.max_weight_ratio a.config a.k.now a.w.now a.weight.now s _ _ c.weights_of-scaled.ensures.room_after) in
    accepts _ _ _ (entry_none a.tau a.config a.k.now a.w.now a.weight.now _ _ (sym c.in_default.ensures) (sym (ok_is a.config.max_weight_ratio a.config a.k.now a.w.now a.weight.now s c.weights_of-scaled.result c.weights_of-scaled.ensures.value) ∙ not-false _ c.if-not-scaled.false)) e refl refl
    (cap_is a.config.max_weight_ratio a.config a.k.now a.w.now a.weight.now s c.weights_of-scaled.result c.weights_of-scaled.ensures.value) c.list_capped-m.ensures.0 c.write_residuals.ensures c.list_capped-m.ensures.1
