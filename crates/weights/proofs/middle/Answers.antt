-- `weights::middle` meets its contract. Assumes nothing.
use borrow.Author.Tests.{eq-eqb, ne_eqb}
use Rattle.weights.specs.Weights.{mid_of}
use Rattle.weights.proofs.middle.Goals as goal

pub returns-then-a-eq0 : goal.returns-then-a-eq0
unfolding mid_of
returns-then-a-eq0 c = simp (eq-eqb _ _ c.if-a-eq0.true)

pub returns : goal.returns
unfolding mid_of
returns c = simp (ne_eqb _ _ c.if-a-eq0.false)
