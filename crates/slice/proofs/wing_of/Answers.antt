-- `slice::wing_of` meets its contract. Assumes nothing.
use Rattle.laws.proofs.Choices.{if_true, if_false}
use Rattle.slice.specs.Slice.{wing_of}
use Rattle.slice.proofs.wing_of.Goals as goal

pub returns-then-s-x : goal.returns-then-s-x
unfolding wing_of
returns-then-s-x c = if_true _ c.if-s-x.true c.across.ensures

pub returns : goal.returns
unfolding wing_of
returns c = if_false _ c.if-s-x.false c.along.ensures
