-- `diagnostics::tally::worse` meets its contract. Assumes nothing.
use Rattle.diagnostics.specs.Tally.{worse_of}
use Rattle.laws.proofs.Choices.{if_true, if_false}
use mathlib.Core.Path.{refl}
use Rattle.diagnostics.proofs.tally.worse.Goals as goal

pub returns-then-p-q : goal.returns-then-p-q
unfolding worse_of
returns-then-p-q c = if_true _ c.if-w.true (if_true _ c.if-p-q.true refl)

pub returns-else-p-q : goal.returns-else-p-q
unfolding worse_of
returns-else-p-q c = if_true _ c.if-w.true (if_false _ c.if-p-q.false refl)

pub returns-else-w : goal.returns-else-w
unfolding worse_of
returns-else-w c = if_false _ c.if-w.false refl
