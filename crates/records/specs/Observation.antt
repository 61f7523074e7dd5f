-- One observation. Definitions only.
-- docs/METHOD.md, 'Before the search'.
use Rattle.std.specs.Prelude.{Bool, ◌&&◌, ℕ, Float, Result, Ok, Err}
use Rattle.std.specs.Float.Ieee.{le}
use Rattle.laws.specs.Choice.{unless}
use Rattle.laws.specs.Floats.{+0, finite, positive}
use Rattle.records.specs.declared.SliceObservation.{SliceObservation}

-- 10, of one observation: k finite, w finite and >= 0, the weight finite and > 0
abbrev pub passes : Float → Float → Float → Bool
passes k w t = finite k && finite w && le +0 w && positive t

-- `SliceObservation::new`
unfoldable pub observed_of : Float → Float → Float → Result SliceObservation ℕ
observed_of k w t = unless (passes k w t) (Err 10) (Ok (record { k = k; w = w; weight = t }))
