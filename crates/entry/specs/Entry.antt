-- The entry checks of the fit, in document 01's order. Definitions only.
-- docs/METHOD.md, 'Before the search'.
use Rattle.std.specs.Prelude.{Bool, true, ◌&&◌, List, ℕ, ◌*◌, eqb, leb, length, Float}
use Rattle.std.specs.Float.Ieee.{neg}
use Rattle.laws.specs.Loop.{for}
use Rattle.laws.specs.Choice.{unless, refusing}
use Rattle.laws.specs.Floats.{◌-f◌, ◌/f◌, +0, one, at, positive, min_of, max_of}
use Rattle.slice.specs.declared.KRange.{KRange}
use Rattle.weights.specs.Weights.{scaled_of, all_good}
use Rattle.records.specs.declared.FitConfig.{FitConfig}
use Rattle.records.specs.Settings.{settings_hold, sizes_hold}
use Rattle.records.specs.Observation.{passes}

-- 12: equal lengths; room for four residual numbers and one capped position an observation
unfoldable pub lengths_hold : List Float → List Float → List Float → ℕ → ℕ → Bool
lengths_hold ks ws weights room slots = eqb (length ks) (length ws) && eqb (length ks) (length weights) && leb (length ks * 4) room && leb (length ks) slots

unfoldable pub columns_pass : List Float → List Float → List Float → Bool
columns_pass ks ws weights = for 0 (length ks) (λ i b. b && passes (at ks i) (at ws i) (at weights i)) true

-- k_min and k_max, from +infinity and -infinity
unfoldable pub range_of : List Float → KRange
range_of ks =
    for 0 (length ks) (λ i t. record { lo = min_of t.lo (at ks i); hi = max_of t.hi (at ks i) }) (record { lo = one /f +0; hi = neg (one /f +0) })

abbrev pub span_of : List Float → Float
span_of ks = (range_of ks).hi -f (range_of ks).lo

-- the number of the first check before the weights that fails, or 0
unfoldable pub checks_number : Float → FitConfig → List Float → List Float → List Float → ℕ → ℕ → ℕ
checks_number tau c ks ws weights room slots =
    unless (lengths_hold ks ws weights room slots) 12
    (unless (sizes_hold (length ks) c) 11
    (unless (columns_pass ks ws weights) 10
    (unless (settings_hold c) 1
    (unless (positive tau) 2
    (unless (leb c.min_observations (length ks)) 3
    (unless (positive (span_of ks)) 4
    0))))))

-- and last the scaled weights
unfoldable pub entry_number : Float → FitConfig → List Float → List Float → List Float → ℕ → ℕ → ℕ
entry_number tau c ks ws weights room slots =
    refusing (checks_number tau c ks ws weights room slots) (λ n. n)
    (unless (all_good (scaled_of c.max_weight_ratio weights)) 5
    0)
