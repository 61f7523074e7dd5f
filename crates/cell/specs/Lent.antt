-- A cell whose rows y and h are worked out in lent room: the contract of the public `inner_on` cites this, so who calls it has to believe it.
-- In room for 256 numbers it is the cell of `inner` (proofs/Laws, `inner-lent`). Definitions only.
use Rattle.std.specs.Prelude.{List, length, Float}
use Rattle.laws.specs.Choice.{unless}
use Rattle.laws.specs.Floats.{at}
use Rattle.cell.specs.declared.Limits.{Limits}
use Rattle.cell.specs.declared.Cell.{Cell}
use Rattle.laws.specs.Room.{filled_on}
use Rattle.cell.specs.Least.{y_of, h_of}
use Rattle.cell.specs.Cell.{posed_of, fit_model, in_range, no_cell}

-- y of each observation at the front of the room ys
unfoldable pub ys_on : List Float → Float → Float → List Float → List Float
ys_on ks m sigma ys = filled_on (length ks) (y_of ks m sigma) ys

-- h of each of these y at the front of the room hs
unfoldable pub hs_on : List Float → Float → Float → List Float → List Float → List Float
hs_on ks m sigma ys hs = filled_on (length ks) (λ i. h_of (at (ys_on ks m sigma ys) i)) hs

-- the cell over what the room then holds; observations out of range give no face, and none is tried
unfoldable pub inner_on : List Float → List Float → List Float → Limits → Float → Float → List Float → List Float → Cell
inner_on ks ws weights l m sigma ys hs =
    unless (in_range ks ws weights) no_cell (posed_of fit_model (at (ys_on ks m sigma ys)) (at (hs_on ks m sigma ys hs)) ws weights l sigma)
