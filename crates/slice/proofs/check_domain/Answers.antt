-- `slice::check_domain` meets its contract. Assumes nothing.
use Rattle.laws.proofs.Choices.{if_true, if_false, is}
use mathlib.Core.Path.{refl}
use lib.Ieee.{lt}
use Rattle.laws.specs.Floats.{one}
use Rattle.slice.specs.Slice.{domain_number, lee_bound}
use Rattle.slice.proofs.check_domain.Goals as goal

-- the tests that are left behind, from the first to the fifth
pub returns-then-s : goal.returns-then-s
unfolding domain_number
returns-then-s c = if_true _ c.if-s.true refl

pub returns-then-s-2 : goal.returns-then-s-2
unfolding domain_number
returns-then-s-2 c = if_false _ c.if-s.false (if_true _ c.if-s-2.true refl)

pub returns-then-rho : goal.returns-then-rho
unfolding domain_number
returns-then-rho c = if_false _ c.if-s.false (if_false _ c.if-s-2.false (if_true _ (is (lt one) c.magnitude-rho.ensures c.if-rho.true) refl))

pub returns-then-s-3 : goal.returns-then-s-3
unfolding domain_number
returns-then-s-3 c = if_false _ c.if-s.false (if_false _ c.if-s-2.false (if_false _ (is (lt one) c.magnitude-rho.ensures c.if-rho.false)
    (if_true _ c.if-s-3.true refl)))

pub returns-then-slope : goal.returns-then-slope
unfolding domain_number
returns-then-slope c = if_false _ c.if-s.false (if_false _ c.if-s-2.false (if_false _ (is (lt one) c.magnitude-rho.ensures c.if-rho.false)
    (if_false _ c.if-s-3.false (if_true _ (is (lt lee_bound) c.lee-slope.ensures c.if-slope.true) refl))))

pub returns-then-is_finite-low : goal.returns-then-is_finite-low
unfolding domain_number
returns-then-is_finite-low c = if_false _ c.if-s.false (if_false _ c.if-s-2.false (if_false _ (is (lt one) c.magnitude-rho.ensures c.if-rho.false)
    (if_false _ c.if-s-3.false (if_false _ (is (lt lee_bound) c.lee-slope.ensures c.if-slope.false)
    (rw (← c.lowest-low.ensures, ← c.is_finite.ensures) (if_true _ c.if-is_finite-low.true refl))))))

pub returns : goal.returns
unfolding domain_number
returns c = if_false _ c.if-s.false (if_false _ c.if-s-2.false (if_false _ (is (lt one) c.magnitude-rho.ensures c.if-rho.false)
    (if_false _ c.if-s-3.false (if_false _ (is (lt lee_bound) c.lee-slope.ensures c.if-slope.false)
    (rw (← c.lowest-low.ensures, ← c.is_finite.ensures) (if_false _ c.if-is_finite-low.false refl))))))
