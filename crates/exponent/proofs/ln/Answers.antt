-- `ln` meets its contract: each exit is the arm that `ln_of` picks. Assumes nothing.
use Rattle.exponent.specs.Ln.{ln_of}
use mathlib.Core.Path.{refl}
use Rattle.laws.proofs.Floats.{nan_of, self_same}
use Rattle.laws.proofs.Patterns.{inf_pattern}
use Rattle.exponent.proofs.Tests.{minus_infinity, lifted_no_nan}
use Rattle.exponent.proofs.ln.Goals as goal

pub returns-then-x : goal.returns-then-x
unfolding ln_of
returns-then-x c = rw c.if-x.true

pub returns-then-x-2 : goal.returns-then-x-2
unfolding ln_of
returns-then-x-2 c = rw (c.if-x.false, c.if-x-2.true) (nan_of _ refl)

pub returns-then-x-3 : goal.returns-then-x-3
unfolding ln_of
returns-then-x-3 c = rw (c.if-x.false, c.if-x-2.false, c.if-x-3.true) minus_infinity

pub returns-then-x-4 : goal.returns-then-x-4
unfolding ln_of
returns-then-x-4 c = rw (c.if-x.false, c.if-x-2.false, c.if-x-3.false, rw inf_pattern at c.if-x-4.true)

pub normal-requires : goal.normal-requires
normal-requires c = lifted_no_nan _ c.if-x-2.false c.if-x-5.true

pub returns-then-x-5 : goal.returns-then-x-5
unfolding ln_of
returns-then-x-5 c = rw (c.if-x.false, c.if-x-2.false, c.if-x-3.false, rw inf_pattern at c.if-x-4.false, c.if-x-5.true) c.normal.ensures

pub normal-requires-2 : goal.normal-requires-2
normal-requires-2 c = self_same _ c.if-x.false

pub returns : goal.returns
unfolding ln_of
returns c = rw (c.if-x.false, c.if-x-2.false, c.if-x-3.false, rw inf_pattern at c.if-x-4.false, c.if-x-5.false) c.normal-2.ensures
