-- `roots::wide::joined` meets its contract. Assumes nothing.
use mathlib.Core.Path.{◌∙◌}
use native.Mathlib.Omega.{arith}
use Rattle.roots.proofs.Limbs.{high_lt, sum_is}
use Rattle.roots.proofs.wide.joined.Goals as goal

pub returns : goal.returns
returns c = (sum_is _ _ _ _ _ _ _ _ c.square-x.ensures (c.cut_off-z.ensures.0 ∙ c.square.ensures), omega (arith, high_lt _ _ _ c.requires.0 c.square-x.ensures, c.cut_off-z.ensures, c.square-x.result.low), c.cut_off-z.ensures.2)
