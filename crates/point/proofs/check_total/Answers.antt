-- `point::check_total` meets its contract. Assumes nothing.
use mathlib.Core.Path.{refl}
use Rattle.point.specs.Point.{total_number}
use Rattle.point.proofs.check_total.Goals as goal

pub returns-then-not-is_positive : goal.returns-then-not-is_positive
unfolding total_number
returns-then-not-is_positive c = rw (← c.is_positive.ensures, c.if-not-is_positive.true) refl

pub returns-then-rest : goal.returns-then-rest
unfolding total_number
returns-then-rest c = rw (← c.is_positive.ensures, c.if-not-is_positive.false, ← c.is_finite.ensures, ← c.is_finite-2.ensures, ← c.is_finite-3.ensures, c.if-rest.true) refl

pub returns : goal.returns
unfolding total_number
returns c = rw (← c.is_positive.ensures, c.if-not-is_positive.false, ← c.is_finite.ensures, ← c.is_finite-2.ensures, ← c.is_finite-3.ensures, c.if-rest.false) refl
