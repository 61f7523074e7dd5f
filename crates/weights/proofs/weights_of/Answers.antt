-- `weights::weights_of` meets its contract. Assumes nothing.
use mathlib.Core.Path.{refl}
use native.Mathlib.Omega.{arith}
use borrow.Author.Tests.{leb-true}
use lib.ListN.{length}
use Rattle.laws.proofs.Choices.{if_true, if_false, both}
use Rattle.weights.specs.Weights.{weights_of, scaled_in}
use Rattle.weights.proofs.weights_of.Goals as goal

pub weigh-requires : goal.weigh-requires
weigh-requires c = let h = both _ _ c.if-n.true in
    (leb-true _ _ h.0, omega (arith, leb-true (length c.args.weights.now) 256 h.1))

pub returns-then-n : goal.returns-then-n
unfolding weights_of scaled_in
returns-then-n c = record { value = if_true _ c.if-n.true c.weigh.ensures.value; room_after = if_true _ c.if-n.true c.weigh.ensures.room_after }

pub returns : goal.returns
unfolding weights_of scaled_in
returns c = record { value = if_false _ c.if-n.false refl; room_after = if_false _ c.if-n.false refl }
