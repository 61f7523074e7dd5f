-- `linspace`: the n points of an axis from lo to hi. The last is hi itself, any other lo + (hi - lo) * i / last. Definitions only.
-- docs/METHOD.md, 'The search over m and ln sigma'.
use Rattle.std.specs.Prelude.{ℕ, ◌-◌, max, cond, ◌==◌, Float}
use Rattle.laws.specs.Floats.{◌+f◌, ◌-f◌, ◌*f◌, ◌/f◌, num}

unfoldable pub last_of : ℕ → ℕ
last_of n = max (n - 1) 1

unfoldable pub linspace_at : Float → Float → ℕ → ℕ → Float
linspace_at lo hi n i = cond (i == last_of n) hi (lo +f (hi -f lo) *f num i /f num (last_of n))
