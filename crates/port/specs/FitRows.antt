-- The fit, and what quotes as they came in come to, with settings and answer in rows. Definitions only.
use Rattle.std.specs.Prelude.{◌≡◌, Bool, List, ◌∷◌, ℕ, length, Float}
use Rattle.laws.specs.Room.{written}
use Rattle.weights.specs.Weights.{capped_of}
use Rattle.records.specs.declared.FitAnswer.{FitAnswer}
use Rattle.calibrate.specs.Fit.{fit_of, residuals_of}
use Rattle.house.specs.File.{records_of}
use Rattle.house.specs.Repeats.{kept}
use Rattle.outcome.specs.Outcome.{OutcomeAnswer, bytes_outcome, residuals_for, capped_for}
use Rattle.rows.specs.Rows.{read_config, fit_counts, fit_values}

-- the fit under settings in rows, into the room that is lent
unfoldable pub fit_under : Float → List ℕ → List Float → List Float → List Float → List Float → List Float → List ℕ → FitAnswer
fit_under tau sizes reals ks ws weights residuals capped = fit_of tau (read_config sizes reals) ks ws weights (length residuals) (length capped)

-- the contract of `port_raw_fit_slice`: the number r and the rows of the answer; an accepted one writes its residuals and its capped positions, a refusal neither
pub record FittedRows
    (tau : Float) (sizes : List ℕ) (reals ks ws weights residuals : List Float) (capped : List ℕ)
    (r : ℕ) (residuals' : List Float) (capped' counts : List ℕ) (values : List Float) (active : List Bool) : Type 0 where
  pub numbered : r ≡ (fit_under tau sizes reals ks ws weights residuals capped).number
  pub left : residuals' ≡ written r (residuals_of (fit_under tau sizes reals ks ws weights residuals capped).slice ks ws) residuals
  pub listed : capped' ≡ written r (capped_of (read_config sizes reals).max_weight_ratio weights) capped
  pub counted : counts ≡ fit_counts (fit_under tau sizes reals ks ws weights residuals capped)
  pub valued : values ≡ fit_values (fit_under tau sizes reals ks ws weights residuals capped)
  pub marked : active ≡ (fit_under tau sizes reals ks ws weights residuals capped).active

-- read, kept, then the nine counts of the fit
abbrev pub outcome_counts : OutcomeAnswer → List ℕ
outcome_counts o = o.read ∷ o.kept ∷ fit_counts o.fit

-- what quotes in bytes come to under settings in rows, into the room that is lent
unfoldable pub quotes_under : Float → List ℕ → List Float → List ℕ → List Float → List ℕ → OutcomeAnswer
quotes_under tau sizes reals quotes residuals capped = bytes_outcome tau (read_config sizes reals) quotes (length residuals) (length capped)

-- the contract of `port_raw_fit_quotes`: the number r and the rows of the outcome; an accepted fit writes the residuals and the capped positions of the quotes kept, a refusal neither
pub record QuotesRows
    (tau : Float) (sizes : List ℕ) (reals : List Float) (quotes : List ℕ) (residuals : List Float) (capped : List ℕ)
    (r : ℕ) (residuals' : List Float) (capped' counts : List ℕ) (values : List Float) (active : List Bool) : Type 0 where
  pub numbered : r ≡ (quotes_under tau sizes reals quotes residuals capped).fit.number
  pub left : residuals' ≡ written r (residuals_for (quotes_under tau sizes reals quotes residuals capped).fit.slice (kept (records_of quotes))) residuals
  pub listed : capped' ≡ written r (capped_for (read_config sizes reals) (kept (records_of quotes))) capped
  pub counted : counts ≡ outcome_counts (quotes_under tau sizes reals quotes residuals capped)
  pub valued : values ≡ fit_values (quotes_under tau sizes reals quotes residuals capped).fit
  pub marked : active ≡ (quotes_under tau sizes reals quotes residuals capped).fit.active
