-- `slice::eval_tested` meets its contract. Assumes nothing.
use Rattle.laws.proofs.Choices.{if_true, if_false}
use mathlib.Core.Path.{refl, ◌∙◌, ap}
use Rattle.slice.specs.Slice.{eval_raw, judged_of}
use Rattle.slice.proofs.eval_tested.Goals as goal

pub returns-then-is_finite : goal.returns-then-is_finite
unfolding eval_raw
returns-then-is_finite c = rw (← c.is_finite.ensures) (if_true _ c.if-is_finite.true (c.judged.ensures ∙ ap (judged_of _) c.values_at.ensures))

pub returns : goal.returns
unfolding eval_raw
returns c = rw (← c.is_finite.ensures) (if_false _ c.if-is_finite.false refl)
