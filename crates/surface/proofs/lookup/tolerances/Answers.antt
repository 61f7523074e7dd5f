use mathlib.Core.Path.{ap}
use lib.Ieee.{Float}
use lib.ListN.{set}
use borrow.Author.Tests.{le-ltb}
use Rattle.laws.proofs.Choices.{if_false}
use Rattle.laws.proofs.Loops.{again, ended}
use Rattle.surface.specs.Lookup.{tolerances_of}
use Rattle.surface.proofs.lookup.tolerances.Goals as goal

pub loop-i-preserved : goal.loop-i-preserved
loop-i-preserved c = again _ _ _ c.loop-i-test.true (ap (λ (t : Float). set c.loop-i.tols c.loop-i.i t) c.tolerance_at.ensures) c.loop-i.invariant

pub returns : goal.returns
unfolding tolerances_of
returns c = if_false _ (le-ltb _ _ c.requires) (ended _ _ _ c.loop-i-test.false c.loop-i.invariant)
