-- `port::calibration::port_raw_fit_quotes` meets its contract. Assumes nothing.
use mathlib.Core.Path.{ap, ◌∙◌}
use Rattle.records.specs.declared.FitAnswer.{FitAnswer}
use Rattle.outcome.specs.Outcome.{outcome_with}
use Rattle.rows.specs.Rows.{fit_values}
use Rattle.port.specs.FitRows.{outcome_counts}
use Rattle.port.proofs.InRows.{quotes_in_rows}
use Rattle.port.proofs.calibration.port_raw_fit_quotes.Goals as goal

pub returns : goal.returns
returns c =
    let o = c.of_quotes-o.result in
    let came = c.of_quotes-o.ensures in
    let t = c.told-a.ensures in
    quotes_in_rows _ _ _ _ _ _ c.read_config-config.ensures (came.value, (came.residuals_after, came.capped_after))
    (c.outcome_counts.ensures ∙ ap (λ (a : FitAnswer). outcome_counts (outcome_with o.read o.kept a)) t) (c.fit_values.ensures ∙ ap fit_values t) (ap (λ (a : FitAnswer). a.active) t) (ap (λ (a : FitAnswer). a.number) t)
