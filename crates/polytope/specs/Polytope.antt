-- The seven constraints g x <= h on x = (a, d, c): `constraints` of calibrate.rs, its h_scale, and what meets them. Definitions only.
-- docs/METHOD.md, 'Five numbers, three of them linear'.
use Rattle.std.specs.Prelude.{Bool, true, ◌&&◌, List, [], ◌∷◌, ℕ, ◌+◌, ◌*◌, ltb, Float}
use Rattle.std.specs.Float.{nan}
use Rattle.std.specs.Float.Ieee.{neg, le}
use Rattle.laws.specs.Loop.{for}
use Rattle.laws.specs.Choice.{unless}
use Rattle.laws.specs.Floats.{◌+f◌, ◌-f◌, ◌*f◌, +0, one, two, at, abs_of, max_of}

-- the seven rows g, three numbers each: c >= 0, d <= c, -d <= c, d + c <= 2 sigma, c - d <= 2 sigma, a >= a_min, a <= a_max
abbrev pub rows_of : List Float
rows_of =
    +0 ∷ +0 ∷ neg one
    ∷ +0 ∷ one ∷ neg one
    ∷ +0 ∷ neg one ∷ neg one
    ∷ +0 ∷ one ∷ one
    ∷ +0 ∷ neg one ∷ one
    ∷ neg one ∷ +0 ∷ +0
    ∷ one ∷ +0 ∷ +0 ∷ []

-- the seven bounds h; Lee's bound on the slope is 2
abbrev pub bounds_of : Float → Float → Float → List Float
bounds_of sigma a_min a_max = +0 ∷ +0 ∷ +0 ∷ two *f sigma ∷ two *f sigma ∷ neg a_min ∷ a_max ∷ []

-- h_scale: the largest magnitude of a bound, and at least 1
unfoldable pub spread_of : List Float → Float
spread_of h = for 0 7 (λ c acc. max_of acc (abs_of (at h c))) one

-- row c of g times x, from the left, +0 to begin with; there are seven rows
unfoldable pub dot_of : List Float → List Float → ℕ → Float
dot_of g x c = unless (ltb c 7) nan (+0 +f at g (c * 3) *f at x 0 +f at g (c * 3 + 1) *f at x 1 +f at g (c * 3 + 2) *f at x 2)

-- x meets each of the first n constraints within the slack
unfoldable pub feasible_of : List Float → List Float → ℕ → Float → List Float → Bool
feasible_of g h n slack x = for 0 n (λ c b. b && le (dot_of g x c -f at h c) slack) true
