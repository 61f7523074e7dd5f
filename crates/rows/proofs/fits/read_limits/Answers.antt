-- `rows::fits::read_limits` meets its contract. Assumes nothing.
use mathlib.Core.Path.{refl}
use Rattle.rows.specs.Rows.{read_limits}
use Rattle.rows.proofs.fits.read_limits.Goals as goal

pub returns : goal.returns
unfolding read_limits
returns c = refl
