-- What is told of an outcome settles it: no two are told alike. Assumes nothing.
use mathlib.Core.Path.{◌≡◌, refl, sym, ap, ◌∙◌}
use Rattle.records.proofs.Fits.{one_fit}
use Rattle.outcome.specs.declared.Outcome.{Outcome}
use Rattle.outcome.specs.Outcome.{OutcomeAnswer, outcome_in}

pub one_outcome : {x y : Outcome} {z : OutcomeAnswer} → outcome_in x ≡ z → outcome_in y ≡ z → x ≡ y
one_outcome {x} {y} h k =
    let e : outcome_in x ≡ outcome_in y = h ∙ sym k in
    let fit : x.fit ≡ y.fit = one_fit (ap (λ (o : OutcomeAnswer). o.fit) e) refl in
    λ i. record { read = (e i).read; kept = (e i).kept; fit = fit i }
