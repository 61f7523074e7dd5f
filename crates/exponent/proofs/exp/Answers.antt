-- `exp` meets its contract: each exit is the arm that `exp_of` picks. Assumes nothing.
use Rattle.std.proofs.Common.{Bool, not, T, sym, subst}
use Rattle.exponent.specs.Exp.{exp_of}
use Rattle.laws.proofs.Patterns.{inf_pattern}
use Rattle.exponent.proofs.Tests.{not_above_746, turned}
use Rattle.exponent.proofs.exp.Goals as goal

pub returns-then-x : goal.returns-then-x
unfolding exp_of
returns-then-x c = rw c.if-x.true

pub returns-then-x-2 : goal.returns-then-x-2
unfolding exp_of
returns-then-x-2 c = rw (c.if-x.false, c.if-x-2.true) inf_pattern

pub returns-then-x-3 : goal.returns-then-x-3
unfolding exp_of
returns-then-x-3 c = rw (c.if-x.false, c.if-x-2.false, c.if-x-3.true)

pub invariant_of-grown : goal.invariant_of-grown
invariant_of-grown c = record { above_edge = subst T (sym c.if-x-4.true) tt; at_most_746 = not_above_746 _ (subst (λ (b : Bool). T (not b)) (sym c.if-x-2.false) tt) }

pub returns-then-x-4 : goal.returns-then-x-4
unfolding exp_of
returns-then-x-4 c = rw (c.if-x.false, c.if-x-2.false, c.if-x-3.false, c.if-x-4.true) (cc)

pub invariant_of-shrunk : goal.invariant_of-shrunk
invariant_of-shrunk c = let both = turned _ (subst T (sym c.if-x-5.true) tt) (subst (λ (b : Bool). T (not b)) (sym c.if-x-3.false) tt) in record { above_edge = both.0; at_most_746 = both.1 }

pub returns-then-x-5 : goal.returns-then-x-5
unfolding exp_of
returns-then-x-5 c = rw (c.if-x.false, c.if-x-2.false, c.if-x-3.false, c.if-x-4.false, c.if-x-5.true) (cc)

pub returns : goal.returns
unfolding exp_of
returns c = rw (c.if-x.false, c.if-x-2.false, c.if-x-3.false, c.if-x-4.false, c.if-x-5.false) (cc)
