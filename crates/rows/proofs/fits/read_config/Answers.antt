-- `rows::fits::read_config` meets its contract. Assumes nothing.
use mathlib.Core.Path.{refl}
use Rattle.rows.specs.Rows.{read_config}
use Rattle.rows.proofs.fits.read_config.Goals as goal

pub returns : goal.returns
unfolding read_config
returns c = refl
