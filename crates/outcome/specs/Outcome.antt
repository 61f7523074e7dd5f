-- What a file, or quotes as they came in, come to: how many came in, how many are kept, the fit's answer, and what it leaves in the two buffers. Definitions only.
-- docs/METHOD.md, 'Repeats and the house file'.
use Rattle.std.specs.Prelude.{ℕ, ◌%◌, Option, None, Some, List, map, eqb, length, Float}
use Rattle.laws.specs.Choice.{unless, refusing}
use Rattle.slice.specs.declared.SviSlice.{SviSlice}
use Rattle.weights.specs.Weights.{capped_of}
use Rattle.records.specs.declared.FitConfig.{FitConfig}
use Rattle.records.specs.declared.FitAnswer.{FitAnswer}
use Rattle.records.specs.Answer.{answer_in, no_counts, refused_after}
use Rattle.records.specs.Settings.{defaults_of}
use Rattle.calibrate.specs.Fit.{fit_of, residuals_of}
use Rattle.house.specs.declared.Layout.{Layout}
use Rattle.house.specs.declared.Quote.{Quote}
use Rattle.house.specs.File.{house_of, tau_of, config_of, records_at, records_of}
use Rattle.house.specs.Check.{k_of, w_of, weight_of}
use Rattle.house.specs.Repeats.{kept}
use Rattle.house.specs.Taken.{intake_number}
use Rattle.outcome.specs.declared.Outcome.{Outcome}

-- how many records came in, how many are kept, and what is told of their fit
pub record OutcomeAnswer : Type 0 where
  pub read : ℕ
  pub kept : ℕ
  pub fit : FitAnswer

-- what the code hands back, as it is told
abbrev pub outcome_in : Outcome → OutcomeAnswer
outcome_in o = record { read = o.read; kept = o.kept; fit = answer_in o.fit }

-- so many came in, so many are kept, and this is their fit
abbrev pub outcome_with : ℕ → ℕ → FitAnswer → OutcomeAnswer
outcome_with read kept fit = record { read = read; kept = kept; fit = fit }

-- a refusal before repeats are dropped: zeros but for its number, and as many kept as came in
abbrev pub refused_at : ℕ → ℕ → OutcomeAnswer
refused_at number read = outcome_with read read (refused_after number no_counts)

-- the fit of quotes, as columns
abbrev pub fit_for : Float → FitConfig → List Quote → ℕ → ℕ → FitAnswer
fit_for tau config qs room slots = fit_of tau config (map k_of qs) (map w_of qs) (map weight_of qs) room slots

-- refused before repeats are dropped, or the fit of the first of each, with room for so many residual numbers and capped positions
unfoldable pub quotes_outcome : Float → FitConfig → List Quote → ℕ → ℕ → OutcomeAnswer
quotes_outcome tau config qs room slots =
    refusing (intake_number config qs room slots) (λ number. refused_at number (length qs))
    (outcome_with (length qs) (length (kept qs)) (fit_for tau config (kept qs) room slots))

-- of quotes in bytes: 12 where these are no whole records
unfoldable pub bytes_outcome : Float → FitConfig → List ℕ → ℕ → ℕ → OutcomeAnswer
bytes_outcome tau config s room slots = unless (eqb (length s % 32) 0) (refused_at 12 0) (quotes_outcome tau config (records_of s) room slots)

-- of a file: 43 where it is malformed
abbrev pub outcome_for : List ℕ → Option Layout → ℕ → ℕ → OutcomeAnswer
outcome_for s None room slots = refused_at 43 0
outcome_for s (Some h) room slots = quotes_outcome (tau_of s h.settings) (config_of s h.settings) (records_at s h.settings h.count) room slots

unfoldable pub file_outcome : List ℕ → ℕ → ℕ → OutcomeAnswer
file_outcome s room slots = outcome_for s (house_of s) room slots

-- the settings of a file; a malformed one has none of its own
abbrev pub settings_for : List ℕ → Option Layout → FitConfig
settings_for s None = defaults_of
settings_for s (Some h) = config_of s h.settings

unfoldable pub settings_of : List ℕ → FitConfig
settings_of s = settings_for s (house_of s)

-- what an accepted fit of quotes leaves in the buffers: four residual numbers for each, and the positions of the capped weights
abbrev pub residuals_for : SviSlice → List Quote → List Float
residuals_for slice qs = residuals_of slice (map k_of qs) (map w_of qs)

abbrev pub capped_for : FitConfig → List Quote → List ℕ
capped_for config qs = capped_of config.max_weight_ratio (map weight_of qs)
