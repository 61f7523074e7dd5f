-- What the code's tests on floats say in the words of the definitions: magnitude, finite, NaN. Assumes nothing.
use mathlib.Core.Path.{◌≡◌, refl, sym, ap, ◌∙◌, subst}
use mathlib.Core.Bool.{Bool, true, false, not, ◌&&◌, cond}
use Prim.Native.Nat.{ℕ, zero, suc, ◌+◌, ◌*◌, ◌%◌, ◌^◌, ◌<◌}
use native.Mathlib.Nat.{zero-mul, pow-suc, mul-pos}
use native.Mathlib.Omega.{arith}
use lib.Dec.{T, ltb, eqb→eq}
use lib.Pow.{pow_pos}
use lib.IntN.{ℤ, pos, negsuc}
use lib.Ieee.{Float, nan, inf, fin, binary64, up, down, lt, eq, ne, neg, div, fits, of_bits, to_bits, nan_bits, is_nan}
use lib.Ieee.Compare.{differs_from_itself}
use lib.Ieee.Bits.{is_true, nan_bits_is, nan_bits_above}
use borrow.Author.Tests.{ltb-true, ltb-false, eqb-true, eq-eqb}
use Rattle.laws.specs.Floats.{abs_of, unsigned_of, finite, +0, one}
use Rattle.laws.proofs.Choices.{false_true, both}

-- ---- NaN

pub is_nan_lem : (x : Float) → is_nan x ≡ true → x ≡ nan
unfolding is_nan
is_nan_lem nan e = refl
is_nan_lem (inf s) e = cc
is_nan_lem (fin s m x) e = cc

-- the code's `x != x`
pub nan_test : (x : Float) → ne x x ≡ is_nan x
unfolding ne is_nan
nan_test nan = refl
nan_test (inf true) = refl
nan_test (inf false) = refl
nan_test (fin true m e) = simp (eq-eqb (m * up e * down e) (m * up e * down e) refl)
nan_test (fin false m e) = simp (eq-eqb (m * up e * down e) (m * up e * down e) refl)

pub self_same : (x : Float) → ne x x ≡ false → T (not (is_nan x))
self_same x h = subst (λ (b : Bool). T (not b)) (sym h ∙ nan_test x) tt

-- what differs from itself has the one NaN pattern
pub nan_bits_lem : (x : Float) → ne x x ≡ true → 0x7ff8_0000_0000_0000 ≡ to_bits binary64 x
unfolding to_bits
nan_bits_lem x h = ap (to_bits binary64) (sym (differs_from_itself x (subst T (sym h) tt)))

-- 0.0 / 0.0
pub div_zeros : div binary64 +0 +0 ≡ nan
unfolding div of_bits
div_zeros = refl

-- the code's test says whether a pattern is a NaN's
pub nan_of : (n : ℕ) → ltb 0x7ff0_0000_0000_0000 (n % 0x8000_0000_0000_0000) ≡ true → of_bits binary64 n ≡ nan
nan_of n h = is_nan_lem (of_bits binary64 n) (sym (nan_bits_is binary64 n) ∙ nan_bits_above binary64 n ∙ h)

pub not_nan_of : (n : ℕ) → ltb 0x7ff0_0000_0000_0000 (n % 0x8000_0000_0000_0000) ≡ false → T (not (nan_bits binary64 n))
not_nan_of n h = subst (λ (b : Bool). T (not b)) (sym (nan_bits_above binary64 n ∙ h)) tt

-- ---- finite

-- below +infinity and above -infinity
pub between_infinities : (x : Float) → (lt x (div binary64 one +0) && lt (neg (div binary64 one +0)) x) ≡ finite x
unfolding lt neg div of_bits finite
between_infinities nan = refl
between_infinities (inf true) = refl
between_infinities (inf false) = refl
between_infinities (fin s m e) = refl

pub finite_no_nan : (x : Float) → finite x ≡ true → T (not (is_nan x))
unfolding finite is_nan
finite_no_nan nan e = false_true e
finite_no_nan (inf s) e = tt
finite_no_nan (fin s m e) h = tt

-- ---- magnitude

-- by the two tests that `magnitude` makes: `if x < 0.0 { -x } else { x }`, which is `unsigned_of`, and then `if y == 0.0 { 0.0 } else { y }`

abs_below : (x : Float) → lt x +0 ≡ true → neg x ≡ abs_of x
unfolding lt neg abs_of of_bits
abs_below nan h = false_true h
abs_below (inf true) h = refl
abs_below (inf false) h = false_true h
abs_below (fin true m e) h = refl
abs_below (fin false m e) h = absurd (omega (arith, ltb-true (m * up e * 1) (0 * down e) h, zero-mul (down e)))

up_pos : (e : ℤ) → 0 < up e
up_pos (pos k) = pow_pos k
up_pos (negsuc k) = omega arith

-- neither x < 0 nor x = 0
abs_above : (x : Float) → lt x +0 ≡ false → eq x +0 ≡ false → x ≡ abs_of x
unfolding lt eq abs_of of_bits
abs_above nan h k = refl
abs_above (inf true) h k = false_true (sym h)
abs_above (inf false) h k = refl
abs_above (fin false m e) h k = refl
abs_above (fin true m e) h k =
    let z = zero-mul (down e) in
    let a : m * up e * 1 ≡ 0 = omega (arith, ltb-false 0 (m * up e * 1 + 0 * down e) h, z) in
    false_true (sym k ∙ simp (a, z))

-- a zero is written in one way
one_zero : (s : Bool) (e : ℤ) → T (fits binary64 (fin s 0 e)) → +0 ≡ abs_of (fin s 0 e)
unfolding fits abs_of of_bits
one_zero s (pos zero) h = refl
one_zero s (pos (suc k)) h = absurd (omega (arith, eqb→eq (2 ^ suc k * 1) 1 h, pow-suc 2 k, pow_pos k))
one_zero s (negsuc k) h = absurd (omega (arith, eqb→eq (1 * 2 ^ suc k) 1 h, pow-suc 2 k, pow_pos k))

abs_zero : (x : Float) → T (fits binary64 x) → eq x +0 ≡ true → +0 ≡ abs_of x
unfolding eq of_bits
abs_zero nan f h = false_true h
abs_zero (inf true) f h = false_true h
abs_zero (inf false) f h = false_true h
abs_zero (fin s zero e) f h = one_zero s e f
abs_zero (fin s (suc m) e) f h =
    absurd (omega (arith, eqb-true (suc m * up e * 1) (0 * down e) (both _ _ h).0, zero-mul (down e), mul-pos {m = suc m} {n = up e} (omega arith) (up_pos e)))

flip : (x : Float) (b : Bool) → abs_of (cond b (neg x) x) ≡ abs_of x
unfolding abs_of neg
flip nan true = refl
flip nan false = refl
flip (inf s) true = refl
flip (inf s) false = refl
flip (fin s m e) true = refl
flip (fin s m e) false = refl

pub abs_at_zero : (x y : Float) → T (fits binary64 y) → y ≡ unsigned_of x → eq y +0 ≡ true → +0 ≡ abs_of x
abs_at_zero x y f e h = abs_zero y f h ∙ ap abs_of e ∙ flip x (lt x +0)

rest : (x : Float) (b : Bool) → lt x +0 ≡ b → eq (cond b (neg x) x) +0 ≡ false → cond b (neg x) x ≡ abs_of x
rest x true h k = abs_below x h
rest x false h k = abs_above x h k

pub abs_off_zero : (x y : Float) → y ≡ unsigned_of x → eq y +0 ≡ false → y ≡ abs_of x
abs_off_zero x y e h = e ∙ rest x (lt x +0) refl (sym (ap (λ (z : Float). eq z +0) e) ∙ h)

-- ---- the two zeros: what holds of +0 and -0 holds of every zero that fits
with_sign : Bool → Float → Float
with_sign s nan = nan
with_sign s (inf t) = inf t
with_sign s (fin t m e) = fin s m e

pub zero_ind : (P : Float → Type 0) → P +0 → P (neg +0) → (x : Float) → T (fits binary64 x) → T (eq x +0) → P x
unfolding neg of_bits eq with_sign abs_of
zero_ind P p q nan f h = absurd h
zero_ind P p q (inf s) f h = absurd h
zero_ind P p q (fin true m e) f h = subst P (ap (with_sign true) (abs_zero (fin true m e) f (is_true (eq (fin true m e) +0) h))) q
zero_ind P p q (fin false m e) f h = subst P (ap (with_sign false) (abs_zero (fin false m e) f (is_true (eq (fin false m e) +0) h))) p
