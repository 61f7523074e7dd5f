use mathlib.Core.Path.{refl, ap}
use lib.ListN.{set}
use Rattle.laws.specs.Room.{filled_on}
use Rattle.laws.proofs.Loops.{again, ended}
use Rattle.roots.proofs.lengths.from_guesses.Goals as goal

pub loop-i-init : goal.loop-i-init
unfolding filled_on
loop-i-init c = refl

pub loop-i-preserved : goal.loop-i-preserved
loop-i-preserved c = again _ _ _ c.loop-i-test.true (ap (set c.loop-i.hs c.loop-i.i) c.from_guess.ensures) c.loop-i.invariant

pub returns : goal.returns
returns c = ended _ _ _ c.loop-i-test.false c.loop-i.invariant
