-- The answers, line after line. Definitions only.
use Rattle.std.specs.Prelude.{ℕ, Bool, ◌&&◌, cond, List, [], ◌++◌, eqb, leb, length, Float}
use Rattle.laws.specs.Choice.{unless}
use Rattle.records.specs.declared.FitAnswer.{FitAnswer}
use Rattle.text.specs.Lines.{read_line, fit_line, search_line, margins_line, active_line, capped_line, point_lines, refused_line, refused_floats}

-- a malformed file has no `read` line
abbrev pub malformed_text : List ℕ
malformed_text = refused_line 43 0 0

-- 9 has its floats, and any other the two counts, which are 0 but for 3
unfoldable pub refused_of : FitAnswer → List ℕ
refused_of a = cond (eqb a.number 9) (refused_floats a.rmse_vol a.max_rmse_vol) (refused_line a.number a.observed a.required)

-- refused after the search
abbrev pub is_late : ℕ → Bool
is_late number = leb 6 number && leb number 9

-- any other refusal: for 6 to 9 `search` stands before it
unfoldable pub refusal_text : FitAnswer → List ℕ
refusal_text a = cond (is_late a.number) (search_line a.counts) [] ++ refused_of a

-- with its `read` line
unfoldable pub refused_text : ℕ → ℕ → FitAnswer → List ℕ
refused_text read kept a = read_line read kept ++ refusal_text a

-- accepted: the slice, the search, the margins, the active constraints ..
unfoldable pub figures_text : FitAnswer → List ℕ
figures_text a = fit_line a.slice ++ (search_line a.counts ++ (margins_line a ++ active_line a.active))

-- .. then the capped positions and a line for each four residual numbers ..
abbrev pub full_text : ℕ → ℕ → FitAnswer → List Float → List ℕ → List ℕ
full_text read kept a residuals capped = read_line read kept ++ (figures_text a ++ (capped_line capped ++ point_lines residuals))

-- .. of which there are at most 256 each
unfoldable pub accepted_text : ℕ → ℕ → FitAnswer → List Float → List ℕ → List ℕ
accepted_text read kept a residuals capped = unless (leb (length residuals) 1024 && leb (length capped) 256) [] (full_text read kept a residuals capped)
