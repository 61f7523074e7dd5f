-- `port::calibration::port_raw_fit_slice` meets its contract. Assumes nothing.
use mathlib.Core.Path.{ap, ◌∙◌}
use Rattle.records.specs.declared.FitAnswer.{FitAnswer}
use Rattle.rows.specs.Rows.{fit_counts, fit_values}
use Rattle.port.proofs.InRows.{in_rows}
use Rattle.port.proofs.calibration.port_raw_fit_slice.Goals as goal

pub returns : goal.returns
returns c = let t = c.told-a.ensures in
    in_rows _ _ _ _ _ _ _ _ c.read_config-config.ensures c.fit_slice-fit.ensures (c.fit_counts.ensures ∙ ap fit_counts t) (c.fit_values.ensures ∙ ap fit_values t) (ap (λ (b : FitAnswer). b.active) t) (ap (λ (b : FitAnswer). b.number) t)
