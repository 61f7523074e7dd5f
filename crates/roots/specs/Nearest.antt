-- What "nearest, ties to even" says, without a word on how the root is worked out: the root is compared, by squares, with the middle between the value and every other.
-- `proofs/Nearest.antt` shows that `root_of` and `hypot_of` are this and that nothing else is. Definitions only.
-- docs/ELEMENTARY.md, 'Square root and hypotenuse'.
use Rattle.std.specs.Prelude.{ℕ, suc, ◌+◌, ◌*◌, ◌%◌, ◌^◌, ◌≤◌, ◌<◌, ◌≡◌, false, ◌⊎◌, Float}
use Rattle.std.specs.Float.{nan, inf, fin}
use Rattle.std.specs.Float.Ieee.Exact.{HasValue}
use Rattle.roots.specs.Root.{sq, mag}

-- the magnitude of a finite float in units of 2 ^ -1074, and 0 of what is not finite
abbrev pub units_of : Float → ℕ
units_of nan = 0
units_of (inf s) = 0
units_of (fin s m e) = mag m e

-- q is the whole part of the root of n
pub record IsFloorRoot (n q : ℕ) : Type 0 where
  pub low : sq q ≤ n
  pub high : n < sq (suc q)

-- y units is the magnitude of a value with at most 53 digits, however large: so is every finite f64's
abbrev pub Counted : ℕ → Type 0
Counted y = (m : ℕ) × (j : ℕ) × (m < 2 ^ 53) × (y ≡ m * 2 ^ j)

-- Of the values with at most 53 digits q * 2 ^ k is nearest to the root of n: the root is never on y's side of the middle between q * 2 ^ k and any other such y.
-- Where a middle is the root itself, a tie, q is even. q has all the digits that the format keeps.
pub record IsNearestEven (n q k : ℕ) : Type 0 where
  pub full : (2 ^ 52 ≤ q) ⊎ (k ≡ 0)
  pub most : q ≤ 2 ^ 53
  pub below : (y : ℕ) → Counted y → y < q * 2 ^ k → sq (y + q * 2 ^ k) ≤ 4 * n
  pub above : (y : ℕ) → Counted y → q * 2 ^ k < y → 4 * n ≤ sq (y + q * 2 ^ k)
  pub even : (y : ℕ) → Counted y → (y ≡ q * 2 ^ k → ⊥) → sq (y + q * 2 ^ k) ≡ 4 * n → q % 2 ≡ 0

-- v is the f64 nearest to the root of n, in units: it is q * 2 ^ k of them, or, where those come to 2 ^ 1024 or more, past the largest finite number, +infinity
abbrev pub IsNearest : ℕ → Float → Type 0
IsNearest n v =
    (q : ℕ) × (k : ℕ) × IsNearestEven n q k × (q * 2 ^ k < 2 ^ 2098 → HasValue v false (q * 2 ^ k) (2 ^ 1074)) × (2 ^ 2098 ≤ q * 2 ^ k → v ≡ inf false)

-- r units is nearest to the root of n alone: no tie
pub record IsNearestAlone (n r : ℕ) : Type 0 where
  pub held : Counted r
  pub below : (y : ℕ) → Counted y → y < r → sq (y + r) < 4 * n
  pub above : (y : ℕ) → Counted y → r < y → 4 * n < sq (y + r)
