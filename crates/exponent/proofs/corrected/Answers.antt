-- `corrected` meets its contract. Assumes nothing.
use Rattle.exponent.specs.Steps.{corrected_of}
use Rattle.exponent.proofs.corrected.Goals as goal

pub returns-then-g-c : goal.returns-then-g-c
unfolding corrected_of
returns-then-g-c c = rw (c.if-c-g.true, c.if-g-c.true)

pub returns-else-g-c : goal.returns-else-g-c
unfolding corrected_of
returns-else-g-c c = rw (c.if-c-g.true, c.if-g-c.false)

pub returns-else-c-g : goal.returns-else-c-g
unfolding corrected_of
returns-else-c-g c = rw c.if-c-g.false
