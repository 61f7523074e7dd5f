-- From the contracts of the fit and of an outcome to the rows that leave the library. Assumes nothing.
use mathlib.Core.Path.{◌≡◌, ◌∙◌, sym, ap}
use mathlib.Core.Bool.{Bool}
use mathlib.Core.List.{List}
use Prim.Native.Nat.{ℕ}
use lib.ListN.{length}
use lib.Ieee.{Float}
use Rattle.laws.specs.Room.{written}
use Rattle.weights.specs.Weights.{capped_of}
use Rattle.records.specs.declared.FitConfig.{FitConfig}
use Rattle.records.specs.declared.FitAnswer.{FitAnswer}
use Rattle.calibrate.specs.Fit.{Fitted, fit_of, residuals_of}
use Rattle.house.specs.File.{records_of}
use Rattle.house.specs.Repeats.{kept}
use Rattle.outcome.specs.Outcome.{OutcomeAnswer, bytes_outcome, residuals_for, capped_for}
use Rattle.rows.specs.Rows.{read_config, fit_counts, fit_values}
use Rattle.port.specs.FitRows.{FittedRows, fit_under, outcome_counts, QuotesRows, quotes_under}

pub in_rows :
    (tau : Float) (sizes : List ℕ) (reals ks ws weights residuals : List Float) (capped : List ℕ) {c : FitConfig} {a : FitAnswer} {residuals' : List Float} {capped' ns : List ℕ} {vs : List Float} {marks : List Bool} {r : ℕ}
    → c ≡ read_config sizes reals → Fitted tau c ks ws weights residuals capped a residuals' capped' → ns ≡ fit_counts a → vs ≡ fit_values a → marks ≡ a.active → r ≡ a.number
    → FittedRows tau sizes reals ks ws weights residuals capped r residuals' capped' ns vs marks
unfolding fit_under
in_rows tau sizes reals ks ws weights residuals capped {c} {a} h f n v m d =
    let e : a ≡ fit_under tau sizes reals ks ws weights residuals capped = f.answer ∙ ap (λ (d : FitConfig). fit_of tau d ks ws weights (length residuals) (length capped)) h in
    record {
      numbered = d ∙ ap (λ (b : FitAnswer). b.number) e;
      left = f.left ∙ ap (λ (b : FitAnswer). written a.number (residuals_of b.slice ks ws) residuals) e ∙ ap (λ (x : ℕ). written x (residuals_of (fit_under tau sizes reals ks ws weights residuals capped).slice ks ws) residuals) (sym d);
      listed = f.listed ∙ ap (λ (d : FitConfig). written a.number (capped_of d.max_weight_ratio weights) capped) h ∙ ap (λ (x : ℕ). written x (capped_of (read_config sizes reals).max_weight_ratio weights) capped) (sym d);
      counted = n ∙ ap fit_counts e;
      valued = v ∙ ap fit_values e;
      marked = m ∙ ap (λ (b : FitAnswer). b.active) e;
    }

pub quotes_in_rows :
    (tau : Float) (sizes : List ℕ) (reals : List Float) (quotes : List ℕ) (residuals : List Float) (capped : List ℕ) {c : FitConfig} {o : OutcomeAnswer} {residuals' : List Float} {capped' ns : List ℕ} {vs : List Float} {marks : List Bool} {r : ℕ}
    → c ≡ read_config sizes reals
    → (o ≡ bytes_outcome tau c quotes (length residuals) (length capped))
    × ((residuals' ≡ written o.fit.number (residuals_for o.fit.slice (kept (records_of quotes))) residuals)
    × (capped' ≡ written o.fit.number (capped_for c (kept (records_of quotes))) capped))
    → ns ≡ outcome_counts o → vs ≡ fit_values o.fit → marks ≡ o.fit.active → r ≡ o.fit.number
    → QuotesRows tau sizes reals quotes residuals capped r residuals' capped' ns vs marks
unfolding quotes_under
quotes_in_rows tau sizes reals quotes residuals capped {c} {o} h f n v m d =
    let e : o ≡ quotes_under tau sizes reals quotes residuals capped = f.0 ∙ ap (λ (d : FitConfig). bytes_outcome tau d quotes (length residuals) (length capped)) h in
    record {
      numbered = d ∙ ap (λ (p : OutcomeAnswer). p.fit.number) e;
      left = f.1.0 ∙ ap (λ (p : OutcomeAnswer). written o.fit.number (residuals_for p.fit.slice (kept (records_of quotes))) residuals) e ∙ ap (λ (x : ℕ). written x (residuals_for (quotes_under tau sizes reals quotes residuals capped).fit.slice (kept (records_of quotes))) residuals) (sym d);
      listed = f.1.1 ∙ ap (λ (d : FitConfig). written o.fit.number (capped_for d (kept (records_of quotes))) capped) h ∙ ap (λ (x : ℕ). written x (capped_for (read_config sizes reals) (kept (records_of quotes))) capped) (sym d);
      counted = n ∙ ap outcome_counts e;
      valued = v ∙ ap (λ (p : OutcomeAnswer). fit_values p.fit) e;
      marked = m ∙ ap (λ (p : OutcomeAnswer). p.fit.active) e;
    }
