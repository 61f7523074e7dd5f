-- `slice::check` meets its contract. Assumes nothing.
use Rattle.refusals.proofs.Numbers.{check_passes, check_refuses_too}
use Rattle.laws.proofs.Choices.{if_true, if_false}
use mathlib.Core.Path.{refl}
use Rattle.slice.specs.Slice.{number_of}
use Rattle.slice.proofs.check.Goals as goal

pub returns-in_err-check_range : goal.returns-in_err-check_range
unfolding number_of
returns-in_err-check_range c = check_refuses_too _ c.from_residual.result _ c.from_residual.ensures.1 c.in_err-check_range.ensures

pub returns-then-first-last : goal.returns-then-first-last
unfolding number_of
returns-then-first-last c = check_passes (λ n. n) c.in_ok-check_range.ensures
    (rw (← c.three_finite-first.ensures, ← c.three_finite-last.ensures) (if_true _ c.if-first-last.true c.check_domain.ensures))

pub returns : goal.returns
unfolding number_of
returns c = check_passes (λ n. n) c.in_ok-check_range.ensures
    (rw (← c.three_finite-first.ensures, ← c.three_finite-last.ensures) (if_false _ c.if-first-last.false refl))
