-- Words of the contracts inside this crate. Nothing here has to be believed: no public contract uses them.
use Rattle.std.specs.Prelude.{ℕ, suc, ◌+◌, ◌*◌, ◌≤◌, ◌<◌, ◌^◌, ◌≡◌, Bool, true, false}
use Rattle.std.specs.Float.{binary64}
use Rattle.std.specs.Float.Ieee.{of_bits}
use Rattle.roots.specs.Root.{sq, root_units}

-- a whole root and what is left over, as code has it
pub record RootPair (n q r : ℕ) : Type 0 where
  pub sum : sq q + r ≡ n
  pub small : r ≤ 2 * q

-- the number of two limbs
abbrev pub limbs : ℕ → ℕ → ℕ
limbs hi lo = hi * 2 ^ 54 + lo

-- q² p ≤ n < (q + 1)² p, and `more` says whether the first is no equation
pub record Between (n p q : ℕ) (more : Bool) : Type 0 where
  pub low : sq q * p ≤ n
  pub high : n < sq (suc q) * p
  pub exact : more ≡ false → sq q * p ≡ n
  pub above : more ≡ true → sq q * p < n

-- n is t times p, and less than one p more
abbrev pub Floor : ℕ → ℕ → ℕ → Type 0
Floor n p t = (t * p ≤ n) × (n < suc t * p)

-- m has 53 digits
abbrev pub IsFull : ℕ → Type 0
IsFull m = (2 ^ 52 ≤ m) × (m < 2 ^ 53)

-- b is the pattern of the root of n units, rounded, and no NaN's
abbrev pub IsRootPattern : ℕ → ℕ → Type 0
IsRootPattern n b = (of_bits binary64 b ≡ root_units n) × (b ≤ 2047 * 2 ^ 52)
