-- `surface::run::check_run` meets its contract. Assumes nothing.
use Rattle.surface.specs.Runs.{check_run}
use Rattle.refusals.proofs.Numbers.{check_passes, check_refuses_too}
use Rattle.laws.proofs.Choices.{if_true, if_false}
use mathlib.Core.Path.{refl, ◌∙◌}
use borrow.Author.Tests.{lt-ltb, le-ltb}
use borrow.Author.Rules.{rules}
use Rattle.surface.proofs.Fronts.{bad_front, rises_front}
use Rattle.surface.proofs.run.check_run.Goals as goal

pub returns-then-n-gt32 : goal.returns-then-n-gt32
unfolding check_run
returns-then-n-gt32 c = if_true _ (lt-ltb _ _ c.if-n-gt32.true) refl

pub returns-in_err-check_each : goal.returns-in_err-check_each
unfolding check_run
returns-in_err-check_each c = if_false _ (le-ltb _ _ c.if-n-gt32.false) (check_refuses_too _ c.from_residual.result _ c.from_residual.ensures.1 (c.in_err-check_each.ensures ∙ bad_front c.args.run.recs c.args.run.count (search rules)))

pub returns-then-n-lt2 : goal.returns-then-n-lt2
unfolding check_run
returns-then-n-lt2 c = if_false _ (le-ltb _ _ c.if-n-gt32.false) (check_passes (λ n. n) (c.in_ok-check_each.ensures ∙ bad_front c.args.run.recs c.args.run.count (search rules)) (if_true _ (lt-ltb _ _ c.if-n-lt2.true) refl))

pub returns-then-rises : goal.returns-then-rises
unfolding check_run
returns-then-rises c = if_false _ (le-ltb _ _ c.if-n-gt32.false) (check_passes (λ n. n) (c.in_ok-check_each.ensures ∙ bad_front c.args.run.recs c.args.run.count (search rules)) (if_false _ (le-ltb _ _ c.if-n-lt2.false)
    (rw (← c.taus_of-taus.ensures, ← rises_front c.taus_of-taus.result c.args.run.count (search rules), ← c.rises.ensures, c.if-rises.true) refl)))

pub returns : goal.returns
unfolding check_run
returns c = if_false _ (le-ltb _ _ c.if-n-gt32.false) (check_passes (λ n. n) (c.in_ok-check_each.ensures ∙ bad_front c.args.run.recs c.args.run.count (search rules)) (if_false _ (le-ltb _ _ c.if-n-lt2.false)
    (rw (← c.taus_of-taus.ensures, ← rises_front c.taus_of-taus.result c.args.run.count (search rules), ← c.rises.ensures, c.if-rises.false) refl)))
