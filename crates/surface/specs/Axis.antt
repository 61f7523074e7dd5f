-- The axes of a diagnostic grid (diagnostics.rs: `DiagnosticGrid::new`). Definitions only.
-- docs/METHOD.md, 'Surfaces and diagnostics'.
use Rattle.std.specs.Prelude.{Bool, true, false, ◌&&◌, ◌||◌, cond, List, ℕ, ◌-◌, eqb, length, Float}
use Rattle.std.specs.Float.Ieee.{lt, to_bits}
use Rattle.std.specs.Float.{binary64}
use Rattle.laws.specs.Choice.{unless}
use Rattle.laws.specs.Floats.{+0, at, finite}
use Rattle.laws.specs.Loop.{for}

-- value i is finite and above the one before it
abbrev pub rising_turn : List Float → ℕ → Bool → Bool
rising_turn v i ok = ok && (finite (at v i) && lt (at v (i - 1)) (at v i))

-- not empty, finite and strictly rising
unfoldable pub rising_of : List Float → Bool
rising_of v = cond (eqb (length v) 0) false (for 1 (length v) (rising_turn v) (finite (at v 0)))

abbrev pub positive_turn : List Float → ℕ → Bool → Bool
positive_turn v i ok = ok && lt +0 (at v i)

-- every value is above zero
unfoldable pub all_positive : List Float → Bool
all_positive v = for 0 (length v) (positive_turn v) true

-- 40, the k axis; 41, the tau axis; 0 for a good grid
unfoldable pub grid_number : List Float → List Float → ℕ
grid_number ks taus = unless (rising_of ks) 40 (unless (rising_of taus && all_positive taus) 41 0)

abbrev pub held_turn : List Float → Float → ℕ → Bool → Bool
held_turn v x i found = found || eqb (to_bits binary64 (at v i)) (to_bits binary64 x)

-- a value of the axis has the bits of x
unfoldable pub held_of : List Float → Float → Bool
held_of v x = for 0 (length v) (held_turn v x) false
