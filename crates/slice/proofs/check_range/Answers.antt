-- `slice::check_range` meets its contract. Assumes nothing.
use Rattle.laws.proofs.Choices.{if_true, if_false}
use mathlib.Core.Path.{refl}
use Rattle.slice.specs.Slice.{range_number}
use Rattle.slice.proofs.check_range.Goals as goal

pub returns-then-is_finite-r : goal.returns-then-is_finite-r
unfolding range_number
returns-then-is_finite-r c = rw (← c.is_finite.ensures, ← c.is_finite-2.ensures) (if_true _ c.if-is_finite-r.true refl)

pub returns : goal.returns
unfolding range_number
returns c = rw (← c.is_finite.ensures, ← c.is_finite-2.ensures) (if_false _ c.if-is_finite-r.false refl)
