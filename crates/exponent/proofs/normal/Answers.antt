-- `normal` meets its contract: a bit pattern has 64 digits, so that the exponent's field and 1 is no overflow. Assumes nothing.
use Rattle.std.proofs.Common.{T, sym, subst, arith}
use lib.Ieee.{binary64}
use lib.Ieee.Bits.{to_bits-lt}
use Rattle.exponent.specs.Ln.{normal_of}
use Rattle.exponent.proofs.normal.Goals as goal

pub overflow_add-e : goal.overflow_add-e
overflow_add-e c = omega (arith, to_bits-lt binary64 c.args.y (subst T (sym c.well_formed.0.1) tt))

pub returns-then-m : goal.returns-then-m
unfolding normal_of
returns-then-m c = rw (← c.digits-m.ensures, c.if-m.true) (cc)

pub returns : goal.returns
unfolding normal_of
returns c = rw (← c.digits-m.ensures, c.if-m.false) (cc)
