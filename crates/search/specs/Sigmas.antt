-- sigma at the points of an axis of ln sigma, worked out once for all rows of a pass. No promise rests on it: the contracts of public functions do not name it.
use Rattle.std.specs.Prelude.{List, ℕ, replicate, Float}
use Rattle.laws.specs.Floats.{+0}
use Rattle.exponent.specs.Exp.{exp_of}
use Rattle.laws.specs.Room.{filled_on}
use Rattle.moves.specs.declared.Axis.{Axis}
use Rattle.moves.specs.Moves.{axis_point}

-- at point j of n
unfoldable pub sigma_at : Axis → ℕ → ℕ → Float
sigma_at a n j = exp_of (axis_point a n j)

-- at all of them, in room for 256
unfoldable pub sigmas_of : Axis → ℕ → List Float
sigmas_of a n = filled_on n (sigma_at a n) (replicate 256 +0)
