-- `roots::lengths::with_one` meets its contract: the guesses are written over. Assumes nothing.
use mathlib.Core.Path.{refl, ◌∙◌}
use borrow.Author.Tests.{le-leb, lt-leb}
use Rattle.roots.specs.Hypot.{with_one_of}
use Rattle.laws.proofs.Choices.{if_true, if_false}
use Rattle.roots.proofs.lengths.with_one.Goals as goal

pub returns-then-n-le256 : goal.returns-then-n-le256
unfolding with_one_of
returns-then-n-le256 c = if_true _ (le-leb _ _ c.if-n-le256.true) (c.from_guesses.ensures ∙ c.guesses.ensures _)

pub returns-else-n-le256 : goal.returns-else-n-le256
unfolding with_one_of
returns-else-n-le256 c = if_false _ (lt-leb _ _ c.if-n-le256.false) refl
