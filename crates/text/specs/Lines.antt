-- The lines of an answer. Every line ends in one newline. Definitions only.
use Rattle.std.specs.Prelude.{ℕ, ◌*◌, ◌/◌, Bool, List, [], ◌∷◌, ◌++◌, length, take, drop, Float}
use Prim.Native.Char.{code}
use Prim.Native.String.{String, [] as ε, ◌∷◌ as ◌◂◌}
use Rattle.laws.specs.Loop.{for}
use Rattle.slice.specs.declared.SviSlice.{SviSlice}
use Rattle.records.specs.declared.Counts.{Counts}
use Rattle.records.specs.declared.FitAnswer.{FitAnswer}
use Rattle.text.specs.Digits.{floats_of, counts_of, marks_of}

-- a quoted text's bytes
abbrev pub ascii : String → List ℕ
ascii ε = []
ascii (c ◂ s) = code c ∷ ascii s

-- a name and what stands behind it
abbrev pub line : List ℕ → List ℕ → List ℕ
line name values = name ++ (values ++ ascii "\n")

-- with floats, and with counts
abbrev pub floats_line : List ℕ → List Float → List ℕ
floats_line name xs = line name (floats_of xs)

abbrev pub counts_line : List ℕ → List ℕ → List ℕ
counts_line name ns = line name (counts_of ns)

-- records in the file, and records kept
unfoldable pub read_line : ℕ → ℕ → List ℕ
read_line read kept = ascii "read" ++ (counts_of (read ∷ []) ++ counts_line (ascii " kept") (kept ∷ []))

-- the fitted slice
unfoldable pub fit_line : SviSlice → List ℕ
fit_line s = floats_line (ascii "fit") (s.tau ∷ s.a ∷ s.b ∷ s.rho ∷ s.m ∷ s.sigma ∷ [])

-- the six counts of the search
unfoldable pub search_line : Counts → List ℕ
search_line n = counts_line (ascii "search") (n.passes ∷ n.recentres ∷ n.shrinks ∷ n.cells ∷ n.faces ∷ n.updates ∷ [])

-- the objective, of the search and of the slice, the room to two bounds, and the error in volatility
unfoldable pub margins_line : FitAnswer → List ℕ
margins_line a =
    floats_line (ascii "margins") (a.objective ∷ a.objective_params ∷ a.lee_margin ∷ a.a_margin ∷ a.rmse_vol ∷ [])

-- seven digits, in constraint order
unfoldable pub active_line : List Bool → List ℕ
active_line active = line (ascii "active ") (marks_of active)

-- how many weights were capped, and their positions
unfoldable pub capped_line : List ℕ → List ℕ
capped_line capped = ascii "capped" ++ (counts_of (length capped ∷ []) ++ line [] (counts_of capped))

-- the i-th four numbers
unfoldable pub point_line : List Float → ℕ → List ℕ
point_line residuals i = floats_line (ascii "point") (take 4 (drop (4 * i) residuals))

-- one line for each four numbers
unfoldable pub point_lines : List Float → List ℕ
point_lines residuals = for 0 (length residuals / 4) (λ i t. t ++ point_line residuals i) []

-- a number and two values
unfoldable pub refused_line : ℕ → ℕ → ℕ → List ℕ
refused_line number x y = counts_line (ascii "refused") (number ∷ x ∷ y ∷ [])

-- 9, whose values are floats
unfoldable pub refused_floats : Float → Float → List ℕ
refused_floats x y = ascii "refused" ++ (counts_of (9 ∷ []) ++ line [] (floats_of (x ∷ y ∷ [])))
