-- `point::check_point` meets its contract. Assumes nothing.
use mathlib.Core.Path.{refl}
use Rattle.point.specs.Point.{point_number}
use Rattle.point.proofs.check_point.Goals as goal

pub returns-then-not-is_finite : goal.returns-then-not-is_finite
unfolding point_number
returns-then-not-is_finite c = rw (← c.is_finite.ensures, c.if-not-is_finite.true) refl

pub returns-then-is_positive : goal.returns-then-is_positive
unfolding point_number
returns-then-is_positive c = rw (← c.is_finite.ensures, c.if-not-is_finite.false, ← c.is_positive.ensures, c.if-is_positive.true) refl

pub returns : goal.returns
unfolding point_number
returns c = rw (← c.is_finite.ensures, c.if-not-is_finite.false, ← c.is_positive.ensures, c.if-is_positive.false) refl
