-- The length √(x² + y²) of two values of binary64, rounded once, said over whole numbers. Definitions only.
-- docs/ELEMENTARY.md, 'Square root and hypotenuse'.
use Rattle.std.specs.Prelude.{ℕ, ◌+◌, false, cond, List, leb, Float}
use Rattle.std.specs.Float.{nan, inf, fin}
use Rattle.laws.specs.Floats.{one, at}
use Rattle.laws.specs.Room.{filled_on}
use Rattle.roots.specs.Root.{sq, mag, root_units}

-- beside an infinity +infinity, beside a NaN else NaN; of magnitudes of a and b units, the value nearest to the root of a² + b² units
unfoldable pub hypot_of : Float → Float → Float
unfolding root_units
hypot_of (inf s) y = inf false
hypot_of nan nan = nan
hypot_of nan (inf t) = inf false
hypot_of nan (fin t n d) = nan
hypot_of (fin s m e) nan = nan
hypot_of (fin s m e) (inf t) = inf false
hypot_of (fin s m e) (fin t n d) = root_units (sq (mag m e) + sq (mag n d))

-- the lengths of the first n of 256 numbers with 1, each in its place of the room; nothing is written for more
unfoldable pub with_one_of : List Float → ℕ → List Float → List Float
with_one_of ys n before = cond (leb n 256) (filled_on n (λ i. hypot_of (at ys i) one) before) before
