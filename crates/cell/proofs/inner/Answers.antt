-- `cell::inner` meets its contract. Assumes nothing.
use mathlib.Core.Path.{◌∙◌}
use Prim.Native.Nat.{◌≤◌}
use native.Mathlib.Omega.{arith}
use lib.ListN.{length, replicate, length-replicate}
use Rattle.laws.specs.Floats.{+0}
use Rattle.cell.proofs.Laws.{inner_lent}
use Rattle.cell.proofs.inner.Goals as goal

room : 256 ≤ length (replicate 256 +0)
room = omega (arith, length-replicate 256 +0)

pub returns : goal.returns
returns c = c.inner_on.ensures.value ∙ inner_lent _ _ _ _ _ _ (replicate 256 +0) (replicate 256 +0) room room
