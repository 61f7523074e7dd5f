-- What the tests at the head of exp and ln say. Assumes nothing.
use Rattle.std.proofs.Common.{◌≡◌, ℕ, ◌*◌, ◌≤◌, true, false, not, T, ltb, pos, refl, ◌∙◌, true≢false, arith, nltb→le}
use mathlib.Core.Bool.{false≢true}
use lib.Arith.{le→nltb}
use lib.Ieee.{Float, nan, inf, fin, unlike, up, down, neg, lt, ne, mul, is_nan, binary64, of_bits}
use lib.Ieee.Bits.{is_false}
use Rattle.laws.specs.Floats.{◌*f◌, +0}
use Rattle.laws.proofs.Floats.{nan_test}
use Rattle.laws.proofs.Interval.{Iv}
use Rattle.laws.proofs.Signs.{mul_signed, signed_no_nan}
use Rattle.exponent.specs.Steps.{c710, c746}
use Rattle.exponent.specs.Exp.{edge}
use Rattle.exponent.specs.Ln.{c2m1022, c2p54}

-- ---- NaN, and quotients by zero
pub passes_nan : (x : Float) → T (not (is_nan x)) → ne x x ≡ false
passes_nan x h = nan_test x ∙ is_false (is_nan x) h

pub above_no_nan : (y x : Float) → T (lt y x) → T (not (is_nan x))
unfolding lt is_nan
above_no_nan nan nan t = absurd t
above_no_nan (inf s) nan t = absurd t
above_no_nan (fin s m e) nan t = absurd t
above_no_nan y (inf s) t = tt
above_no_nan y (fin s m e) t = tt

pub below_no_nan : (x y : Float) → T (lt x y) → T (not (is_nan x))
unfolding lt is_nan
below_no_nan nan y t = absurd t
below_no_nan (inf s) y t = tt
below_no_nan (fin s m e) y t = tt

pub minus_infinity : of_bits binary64 0xfff0_0000_0000_0000 ≡ inf true
unfolding of_bits
minus_infinity = refl

-- ---- exp
pub below_not_high : (x : Float) → T (lt x (neg c746)) → lt c710 x ≡ false
unfolding lt of_bits neg
below_not_high nan t = refl
below_not_high (inf true) t = refl
below_not_high (inf false) t = absurd t
below_not_high (fin true m e) t = refl
below_not_high (fin false m e) t = absurd t

-- neither above `edge` nor below its opposite: of size 363444 / 2^20 at most
scaled : (a c : ℕ) → a * 2251799813685248 ≤ 780473815423307 * c → a * 1048576 ≤ 363444 * c
scaled a c h = omega arith

narrow : (a c : ℕ) → T (not (ltb (780473815423307 * c) (a * 2251799813685248))) → a * 1048576 ≤ 363444 * c
narrow a c t = scaled a c (nltb→le (780473815423307 * c) (a * 2251799813685248) t)

pub middle : (x : Float) → T (not (is_nan x)) → T (not (lt edge x)) → T (not (lt x (neg edge))) → Iv x 363444 363444
unfolding lt of_bits neg is_nan
middle nan h r l = absurd h
middle (inf true) h r l = absurd l
middle (inf false) h r l = absurd r
middle (fin true m e) h r l = narrow (m * up e) (down e) l
middle (fin false m e) h r l = narrow (m * up e) (down e) r

-- what `grown` and `shrunk` are called on
pub not_above_746 : (x : Float) → T (not (lt c710 x)) → T (not (lt c746 x))
unfolding lt of_bits
not_above_746 nan t = tt
not_above_746 (inf true) t = tt
not_above_746 (inf false) t = t
not_above_746 (fin true m e) t = tt
not_above_746 (fin false m e) t = le→nltb (746 * down e) (m * up e * 1) (more (m * up e * 1) (down e) (nltb→le (710 * down e) (m * up e * 1) t))
  where
    more : (x d : ℕ) → x ≤ 710 * d → x ≤ 746 * d
    more x d h = omega arith

pub turned : (x : Float) → T (lt x (neg edge)) → T (not (lt x (neg c746))) → T (lt edge (neg x)) × T (not (lt c746 (neg x)))
unfolding lt of_bits neg
turned nan p q = absurd p
turned (inf true) p q = absurd q
turned (inf false) p q = absurd p
turned (fin true m e) p q = (p, q)
turned (fin false m e) p q = absurd p

-- ---- ln: what the small branch is called on
pub lifted_no_nan : (x : Float) → lt x +0 ≡ false → lt x c2m1022 ≡ true → T (not (is_nan (x *f c2p54)))
unfolding lt of_bits mul
lifted_no_nan nan n l = absurd (false≢true l)
lifted_no_nan (inf true) n l = absurd (true≢false n)
lifted_no_nan (inf false) n l = absurd (false≢true l)
lifted_no_nan (fin s m k) n l = signed_no_nan (unlike s false) (fin s m k *f c2p54) (mul_signed s m k false 1 (pos 54))
