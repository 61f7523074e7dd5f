-- `surface::lookup::near` meets its contract. Assumes nothing.
use Rattle.surface.specs.Lookup.{near_of}
use mathlib.Core.Path.{ap}
use lib.Ieee.{Float, le}
use Rattle.surface.proofs.lookup.near.Goals as goal

pub returns : goal.returns
unfolding near_of
returns c = ap (λ (x : Float). le x c.args.tol) c.magnitude.ensures
