-- `slice::judged` meets its contract. Assumes nothing.
use Rattle.laws.proofs.Choices.{if_true, if_false}
use mathlib.Core.Path.{refl, ◌∙◌, sym}
use Rattle.slice.specs.Slice.{judged_of}
use Rattle.slice.proofs.judged.Goals as goal

pub returns-then-not-good : goal.returns-then-not-good
unfolding judged_of
returns-then-not-good c = if_false _ (sym c.three_finite-good.ensures ∙ c.if-not-good.true) refl

pub returns-then-flat : goal.returns-then-flat
unfolding judged_of
returns-then-flat c = if_true _ (sym c.three_finite-good.ensures ∙ c.if-not-good.false) (if_true _ c.if-flat.true refl)

pub returns : goal.returns
unfolding judged_of
returns c = if_true _ (sym c.three_finite-good.ensures ∙ c.if-not-good.false) (if_false _ c.if-flat.false refl)
