-- exp at every argument: its special values, and that it is never NaN or negative (document 01, "Comparing with the Rust").
-- x is any float, infinities included. Only `exp-zero` asks that x fits binary64, as every f64 of a program does: a zero is then written in one way. Assumes nothing.
use Rattle.std.proofs.Common.{◌≡◌, ℕ, ◌+◌, ◌-◌, ◌*◌, ◌/◌, ◌<◌, Bool, true, false, cond, not, T, refl, arith}
use lib.Ieee.{Float, nan, inf, binary64, neg, lt, le, eq, ne, add, sub, mul, div, is_nan, fits, of_bits, of_int}
use lib.Ieee.Bits.{is_true}
use Rattle.laws.specs.Loop.{turns}
use Rattle.laws.specs.Floats.{◌*f◌, +0, one}
use Rattle.laws.proofs.Floats.{zero_ind}
use Rattle.laws.proofs.Interval.{iv_neg}
use Rattle.laws.proofs.Signs.{Signed, signed_no_nan, signed_not_below, times_signed}
use Rattle.exponent.specs.Steps.{c710, c746, corrected_of}
use Rattle.exponent.specs.Exp.{edge, horner_of, upper_of, series_of, fourth_of, lack_of, kernel_of, turns_of, rest_of, rest_low_of, pow2_of, grown_of, shrunk_of, exp_of}
use Rattle.exponent.proofs.Tests.{passes_nan, above_no_nan, below_no_nan, below_not_high, middle, not_above_746, turned}
use Rattle.exponent.proofs.ExpSeries.{kernel_signed}
use Rattle.exponent.proofs.ExpReduce.{turns_le, rest_small}
use Rattle.exponent.proofs.Powers.{val, val_pos, pow2_value}

-- NaN gives NaN
pub exp_nan : exp_of nan ≡ nan
unfolding exp_of ne
exp_nan = refl

-- +infinity and all above 710 give +infinity
pub exp_high : (x : Float) → T (lt c710 x) → exp_of x ≡ inf false
unfolding exp_of
exp_high x h = rw (passes_nan x (above_no_nan c710 x h), is_true (lt c710 x) h)

pub exp_infinity : exp_of (inf false) ≡ inf false
unfolding lt of_bits
exp_infinity = exp_high (inf false) tt

-- -infinity and all below -746 give 0
pub exp_low : (x : Float) → T (lt x (neg c746)) → exp_of x ≡ +0
unfolding exp_of
exp_low x h = rw (passes_nan x (below_no_nan x (neg c746) h), below_not_high x h, is_true (lt x (neg c746)) h)

pub exp_minus_infinity : exp_of (inf true) ≡ +0
unfolding lt neg of_bits
exp_minus_infinity = exp_low (inf true) tt

-- a zero of either sign gives 1
at_zero : exp_of +0 ≡ one
unfolding exp_of kernel_of corrected_of lack_of fourth_of series_of upper_of horner_of turns of_bits of_int add sub mul div neg le lt eq ne
at_zero = refl

at_minus_zero : exp_of (neg +0) ≡ one
unfolding exp_of kernel_of corrected_of lack_of fourth_of series_of upper_of horner_of turns of_bits of_int add sub mul div neg le lt eq ne
at_minus_zero = refl

pub exp_zero : (x : Float) → T (fits binary64 x) → T (eq x +0) → exp_of x ≡ one
exp_zero x f h = zero_ind (λ (z : Float). exp_of z ≡ one) at_zero at_minus_zero x f h

-- ---- no other argument gives NaN or a negative result
scaled_signed : (v : Float) (b : ℕ) → 0 < b → b < 2047 → Signed false v → Signed false (v *f pow2_of b)
scaled_signed v b h k n = times_signed v (pow2_of b) (val (b * 4503599627370496)) n (pow2_value b h k) (val_pos (b * 4503599627370496))

grown_signed : (a : Float) → T (lt edge a) → T (not (lt c746 a)) → Signed false (grown_of a)
unfolding grown_of
grown_signed a p q =
    let n = turns_of a in
    let l = turns_le a p q in
    scaled_signed (kernel_of (rest_of a n) (rest_low_of a n) *f pow2_of (1023 + n / 2)) (1023 + (n - n / 2)) (omega arith) (omega arith)
    (scaled_signed (kernel_of (rest_of a n) (rest_low_of a n)) (1023 + n / 2) (omega arith) (omega arith) (kernel_signed (rest_of a n) (rest_small a p q) (rest_low_of a n)))

shrunk_signed : (a : Float) → T (lt edge a) → T (not (lt c746 a)) → Signed false (shrunk_of a)
unfolding shrunk_of
shrunk_signed a p q =
    let n = turns_of a in
    let l = turns_le a p q in
    scaled_signed (kernel_of (neg (rest_of a n)) (neg (rest_low_of a n)) *f pow2_of (1023 - n / 2)) (1023 - (n - n / 2)) (omega arith) (omega arith)
    (scaled_signed (kernel_of (neg (rest_of a n)) (neg (rest_low_of a n))) (1023 - n / 2) (omega arith) (omega arith)
    (kernel_signed (neg (rest_of a n)) (iv_neg (rest_of a n) 363444 363444 (rest_small a p q)) (neg (rest_low_of a n))))

zero_signed : Signed false +0
unfolding of_bits
zero_signed = refl

split : (b : Bool) (x y : Float) → (T b → Signed false x) → (T (not b) → Signed false y) → Signed false (cond b x y)
split true x y f g = f tt
split false x y f g = g tt

-- no NaN, and no sign: not even -0
exp_signed : (x : Float) → T (not (is_nan x)) → Signed false (exp_of x)
unfolding exp_of
exp_signed x h =
    let d = kernel_of x +0 in
    let c = cond (lt x (neg edge)) (shrunk_of (neg x)) d in
    let b = cond (lt edge x) (grown_of x) c in
    let a = cond (lt x (neg c746)) +0 b in
    rw (passes_nan x h)
    (split (lt c710 x) (inf false) a (λ t. refl) (λ n1.
    split (lt x (neg c746)) +0 b (λ t. zero_signed) (λ n2.
    split (lt edge x) (grown_of x) c (λ t. grown_signed x t (not_above_746 x n1)) (λ n3.
    split (lt x (neg edge)) (shrunk_of (neg x)) d (λ t. let b = turned x t n2 in shrunk_signed (neg x) b.0 b.1) (λ n4.
    kernel_signed x (middle x h n3 n4) +0)))))

-- never NaN
pub exp_not_nan : (x : Float) → T (not (is_nan x)) → T (not (is_nan (exp_of x)))
exp_not_nan x h = signed_no_nan false (exp_of x) (exp_signed x h)

-- never negative
pub exp_not_negative : (x : Float) → T (not (is_nan x)) → T (not (lt (exp_of x) +0))
exp_not_negative x h = signed_not_below (exp_of x) (exp_signed x h)
