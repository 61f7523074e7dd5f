-- `rows::slices::read_slice` meets its contract. Assumes nothing.
use mathlib.Core.Path.{refl}
use Rattle.rows.specs.Rows.{read_slice}
use Rattle.rows.proofs.slices.read_slice.Goals as goal

pub returns : goal.returns
unfolding read_slice
returns c = refl
