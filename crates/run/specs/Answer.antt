-- What the fit program answers to a file: every byte of it. Definitions only.
-- docs/METHOD.md, 'Repeats and the house file'.
use Rattle.std.specs.Prelude.{ℕ, cond, List, ◌++◌, eqb}
use Rattle.laws.specs.Choice.{unless}
use Rattle.records.specs.declared.FitConfig.{FitConfig}
use Rattle.records.specs.declared.FitAnswer.{FitAnswer}
use Rattle.house.specs.declared.Quote.{Quote}
use Rattle.house.specs.Taken.{kept_of}
use Rattle.outcome.specs.Outcome.{file_outcome, settings_of, residuals_for, capped_for}
use Rattle.text.specs.Lines.{read_line, capped_line, point_lines}
use Rattle.text.specs.Answers.{malformed_text, refusal_text, figures_text}

-- the lines of a refusal, or of an accepted fit of quotes with these settings
unfoldable pub rest_text : FitAnswer → FitConfig → List Quote → List ℕ
rest_text a config qs =
    unless (eqb a.number 0) (refusal_text a)
    (figures_text a ++ (capped_line (capped_for config qs) ++ point_lines (residuals_for a.slice qs)))

-- what stands behind a file's `read` line, with room for 1024 residual numbers and 256 capped positions
unfoldable pub behind_read : List ℕ → List ℕ
behind_read file = rest_text (file_outcome file 1024 256).fit (settings_of file) (kept_of file)

-- a malformed file's one line, or the `read` line and the rest
unfoldable pub answer_of : List ℕ → List ℕ
answer_of file =
    let o = file_outcome file 1024 256 in
    cond (eqb o.fit.number 43) malformed_text (read_line o.read o.kept ++ behind_read file)
