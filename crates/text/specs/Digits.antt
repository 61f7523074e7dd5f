-- Numbers as text. Definitions only.
use Rattle.std.specs.Prelude.{ℕ, zero, suc, ◌+◌, ◌/◌, ◌%◌, Bool, false, cond, List, [], ◌∷◌, ◌++◌, get_or, ltb, Float}
use Rattle.std.specs.Float.Ieee.{to_bits}
use Rattle.std.specs.Float.{binary64}
use Rattle.laws.specs.Loop.{for}

-- the ASCII code of a digit below 16: `0` to `9`, then `a` to `f`
abbrev pub glyph_of : ℕ → ℕ
glyph_of d = cond (ltb d 10) (48 + d) (87 + d)

-- n's last digits in base b, at most f of them, and none more in front of the first below `stop`
unfoldable pub digits_of : ℕ → ℕ → ℕ → ℕ → List ℕ
digits_of b stop zero n = []
digits_of b stop (suc f) n = cond (ltb n stop) [] (digits_of b stop f (n / b)) ++ (glyph_of (n % b) ∷ [])

-- a count below 10 ^ 20, with no zeros in front
abbrev pub decimal_of : ℕ → List ℕ
decimal_of n = digits_of 10 10 20 n

-- sixteen digits
abbrev pub hex_of : ℕ → List ℕ
hex_of n = digits_of 16 0 16 n

-- a space and the text of each
unfoldable pub each : {A : Type 0} → (A → List ℕ) → List A → List ℕ
each text [] = []
each text (x ∷ xs) = 32 ∷ (text x ++ each text xs)

-- a float is its bits; `to_bits` gives 7ff8000000000000 for every NaN
abbrev pub float_of : Float → List ℕ
float_of x = hex_of (to_bits binary64 x)

abbrev pub floats_of : List Float → List ℕ
floats_of xs = each float_of xs

abbrev pub counts_of : List ℕ → List ℕ
counts_of ns = each decimal_of ns

-- seven marks, in order: `1` or `0`
unfoldable pub marks_of : List Bool → List ℕ
marks_of active = for 0 7 (λ i t. t ++ (cond (get_or active i false) 49 48 ∷ [])) []
