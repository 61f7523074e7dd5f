-- ln at every argument: its special values, and its range (document 01, "Comparing with the Rust").
-- x is any float, infinities included. `ln-zero` and `ln-range` ask that x fits binary64, as every f64 of a program does: ln reads x by its bit pattern, which only such a number has. Assumes nothing.
use Rattle.std.proofs.Common.{◌≡◌, true, false, T, refl}
use lib.Ieee.{Float, nan, inf, fin, binary64, neg, le, lt, eq, ne, add, sub, mul, div, of_bits, of_int, to_bits, fits}
use lib.Ieee.Bits.{is_true}
use Rattle.laws.specs.Loop.{turns}
use Rattle.laws.specs.Floats.{+0, one, finite, positive}
use Rattle.laws.proofs.Floats.{zero_ind}
use Rattle.exponent.specs.Steps.{c710, c746}
use Rattle.exponent.specs.Ln.{tail_of, fifth_of, ln_from, joined_of, normal_of, ln_of}
use Rattle.exponent.proofs.Tests.{passes_nan, below_no_nan}
use Rattle.exponent.proofs.LnRange.{range}

-- NaN gives NaN
pub ln_nan : ln_of nan ≡ nan
unfolding ln_of ne
ln_nan = refl

-- and so does every negative number, -infinity too
pub ln_negative : (x : Float) → T (lt x +0) → ln_of x ≡ nan
unfolding ln_of
ln_negative x h = rw (passes_nan x (below_no_nan x +0 h), is_true (lt x +0) h)

-- a zero of either sign gives -infinity
at_zero : ln_of +0 ≡ inf true
unfolding ln_of ne lt eq of_bits
at_zero = refl

at_minus_zero : ln_of (neg +0) ≡ inf true
unfolding ln_of ne lt eq of_bits neg
at_minus_zero = refl

pub ln_zero : (x : Float) → T (fits binary64 x) → T (eq x +0) → ln_of x ≡ inf true
ln_zero x f h = zero_ind (λ (z : Float). ln_of z ≡ inf true) at_zero at_minus_zero x f h

-- 1 gives 0
pub ln_one : ln_of one ≡ +0
unfolding ln_of ne lt le eq of_bits normal_of joined_of fifth_of ln_from turns tail_of to_bits add sub mul div of_int neg
ln_one = refl

-- +infinity gives itself
pub ln_infinity : ln_of (inf false) ≡ inf false
unfolding ln_of ne lt eq of_bits
ln_infinity = refl

-- every positive finite number, subnormals too, gives a finite value from -746 to 710
pub ln_range : (x : Float) → T (fits binary64 x) → T (positive x) → T (finite (ln_of x)) × T (le (neg c746) (ln_of x)) × T (le (ln_of x) c710)
unfolding finite lt of_bits
ln_range nan f p = absurd p
ln_range (inf s) f p = absurd p
ln_range (fin true m e) f p = absurd p
ln_range (fin false m e) f p = range m e f p
