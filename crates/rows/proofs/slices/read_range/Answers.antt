-- `rows::slices::read_range` meets its contract. Assumes nothing.
use mathlib.Core.Path.{refl}
use Rattle.rows.specs.Rows.{read_range}
use Rattle.rows.proofs.slices.read_range.Goals as goal

pub returns : goal.returns
unfolding read_range
returns c = refl
