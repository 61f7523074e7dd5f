-- `surface::axis::check_axes` meets its contract. Assumes nothing.
use mathlib.Core.Path.{refl}
use Rattle.surface.specs.Axis.{grid_number}
use Rattle.surface.proofs.axis.check_axes.Goals as goal

pub returns-then-not-rising : goal.returns-then-not-rising
unfolding grid_number
returns-then-not-rising c = rw (← c.rising.ensures, c.if-not-rising.true) refl

pub returns-then-rising-all_positive : goal.returns-then-rising-all_positive
unfolding grid_number
returns-then-rising-all_positive c = rw (← c.rising.ensures, c.if-not-rising.false, ← c.rising-2.ensures, ← c.all_positive.ensures, c.if-rising-all_positive.true) refl

pub returns : goal.returns
unfolding grid_number
returns c = rw (← c.rising.ensures, c.if-not-rising.false, ← c.rising-2.ensures, ← c.all_positive.ensures, c.if-rising-all_positive.false) refl
