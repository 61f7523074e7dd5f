-- `rows::answers::policy_of` meets its contract. Assumes nothing.
use Rattle.laws.proofs.Choices.{if_true, if_false}
use Rattle.rows.specs.Answers.{policy_of}
use borrow.Author.Tests.{eq-eqb, ne_eqb}
use mathlib.Core.Path.{refl}
use Rattle.rows.proofs.answers.policy_of.Goals as goal

pub returns-then-policy-eq0 : goal.returns-then-policy-eq0
unfolding policy_of
returns-then-policy-eq0 c = if_true _ (eq-eqb _ _ c.if-policy-eq0.true) refl

pub returns : goal.returns
unfolding policy_of
returns c = if_false _ (ne_eqb _ _ c.if-policy-eq0.false) refl
