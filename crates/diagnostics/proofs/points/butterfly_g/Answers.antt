-- `diagnostics::points::butterfly_g` meets its contract. Assumes nothing.
use mathlib.Core.Path.{refl}
use Rattle.diagnostics.specs.Walk.{butterfly_of}
use Rattle.diagnostics.proofs.points.butterfly_g.Goals as goal

pub returns : goal.returns
unfolding butterfly_of
returns c = refl
