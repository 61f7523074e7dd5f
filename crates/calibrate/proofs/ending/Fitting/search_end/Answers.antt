-- `calibrate::ending::Fitting::search_end` meets its contract. Assumes nothing.
use Rattle.laws.proofs.Choices.{if_false}
use Rattle.calibrate.specs.Fit.{search_end}
use Rattle.calibrate.proofs.ending.Fitting.search_end.Goals as goal

pub returns-then-was_refused : goal.returns-then-was_refused
unfolding search_end
returns-then-was_refused c = rw (← c.was_refused.ensures, c.if-was_refused.true) c.after.ensures

pub returns-then-s : goal.returns-then-s
unfolding search_end
returns-then-s c = rw (← c.was_refused.ensures, c.if-was_refused.false, c.if-s.true) c.after-then-s.ensures

pub returns : goal.returns
unfolding search_end
returns c = rw (← c.was_refused.ensures, c.if-was_refused.false) (if_false _ c.if-s.false c.best_end.ensures)
