-- Floats by their bit patterns without the sign: an infinity, or a magnitude of so many units (2 ^ -1074); and a value has one float. Assumes nothing.
use mathlib.Core.Path.{◌≡◌, refl, sym, ap, ◌∙◌, subst}
use mathlib.Core.Bool.{Bool, true, false, not, cond}
use mathlib.Core.Logic.{inl, inr}
use Prim.Native.Nat.{ℕ, zero, suc, ◌+◌, ◌-◌, ◌*◌, ◌/◌, ◌%◌, ◌^◌, ◌≤◌, ◌<◌, compare}
use native.Mathlib.Nat.{mul-div_cancel, mul-pos, zero-mul}
use native.Mathlib.Omega.{arith}
use borrow.Author.Tests.{ne_eqb, ltb-true}
use lib.IntN.{ℤ, pos}
use lib.Dec.{T, leb, ltb, eqb}
use lib.Pow.{pow_pos}
use lib.Ieee.{Float, nan, inf, fin, binary64, up, down, size, odd, units, nearest, round, of_int, of_fields, of_bits, to_bits, is_nan, fits, lt, div}
use lib.Ieee.Bits.{of_bits-to_bits}
use lib.Ieee.Exact.{HasValue, odd_sign}
use lib.Ieee.Fits.{down_pos}
use lib.Ieee.Positive.{first_pos}
use Rattle.laws.specs.Floats.{+0, one, finite}
use Rattle.laws.proofs.Choices.{false_true}
use Rattle.laws.proofs.Floats.{finite_no_nan}
use Rattle.laws.proofs.Comparing.{lt_or_le}
use Rattle.laws.proofs.Patterns.{mant_of, expo_of, amount, low_parts, high_parts}

-- ---- the value of a pattern

amount_low : (t : ℕ) → t < 2 ^ 52 → t * 2 ^ 0 ≡ amount t
unfolding amount
amount_low t h =
    let p = low_parts t h in
    ap (λ (m : ℕ). m * 2 ^ 0) p.0 ∙ ap (λ (e : ℕ). mant_of t * 2 ^ e) p.1

amount_high : (x t : ℕ) → t < 2 ^ 52 → (2 ^ 52 + t) * 2 ^ x ≡ amount (suc x * 2 ^ 52 + t)
unfolding amount
amount_high x t h =
    let b = suc x * 2 ^ 52 + t in
    let p = high_parts b (omega arith) in
    let m : 2 ^ 52 + t ≡ mant_of b = let a : 2 ^ 52 + t ≡ b % 2 ^ 52 + 2 ^ 52 = omega arith in a ∙ p.0 in
    let e : x ≡ expo_of b = let a : x ≡ b / 2 ^ 52 - 1 = omega arith in a ∙ p.1 in
    ap (λ (y : ℕ). y * 2 ^ x) m ∙ ap (λ (y : ℕ). mant_of b * 2 ^ y) e

fields_val : (s : Bool) (x t : ℕ) → x < 2047 → t < 2 ^ 52 → HasValue (of_fields binary64 s x t) s (amount (x * 2 ^ 52 + t)) (2 ^ 1074)
unfolding of_fields
fields_val s zero t h k =
    let e : t ≡ 0 * 2 ^ 52 + t = omega arith in
    subst (λ (n : ℕ). HasValue (odd 53 s t 0 1074) s n (2 ^ 1074)) (amount_low t k ∙ ap amount e) (odd_sign 53 s t 0 1074)
fields_val s (suc x) t h k =
    let e : eqb (suc x) 2047 ≡ false = ne_eqb (suc x) 2047 (λ (z : suc x ≡ 2047). omega arith) in
    rw e (subst (λ (n : ℕ). HasValue (odd 53 s (2 ^ 52 + t) x 1074) s n (2 ^ 1074)) (amount_high x t k) (odd_sign 53 s (2 ^ 52 + t) x 1074))

pub bits_val : (b : ℕ) → b % 2 ^ 63 < 2047 * 2 ^ 52 → HasValue (of_bits binary64 b) (leb (2 ^ 63) b) (amount (b % 2 ^ 63)) (2 ^ 1074)
unfolding of_bits
bits_val b h =
    let c : b % 2 ^ 63 / 2 ^ 52 * 2 ^ 52 + b % 2 ^ 52 ≡ b % 2 ^ 63 = omega arith in
    subst (λ (n : ℕ). HasValue (of_fields binary64 (leb (2 ^ 63) b) (b % 2 ^ 63 / 2 ^ 52) (b % 2 ^ 52)) (leb (2 ^ 63) b) (amount n) (2 ^ 1074)) c
    (fields_val (leb (2 ^ 63) b) (b % 2 ^ 63 / 2 ^ 52) (b % 2 ^ 52) (omega arith) (omega arith))

fields_top : (s : Bool) (x t : ℕ) → x ≡ 2047 → of_fields binary64 s x t ≡ cond (eqb t 0) (inf s) nan
unfolding of_fields
fields_top s x t e = rw e

bits_top : (b : ℕ) → 2047 * 2 ^ 52 ≤ b % 2 ^ 63 → of_bits binary64 b ≡ cond (eqb (b % 2 ^ 52) 0) (inf (leb (2 ^ 63) b)) nan
unfolding of_bits
bits_top b h = fields_top (leb (2 ^ 63) b) (b % 2 ^ 63 / 2 ^ 52) (b % 2 ^ 52) (omega arith)

-- ---- a float of the format that is no NaN

pub value : (x : Float) → T (fits binary64 x) → to_bits binary64 x % 2 ^ 63 < 2047 * 2 ^ 52
    → HasValue x (leb (2 ^ 63) (to_bits binary64 x)) (amount (to_bits binary64 x % 2 ^ 63)) (2 ^ 1074)
value x f h = subst (λ (v : Float). HasValue v (leb (2 ^ 63) (to_bits binary64 x)) (amount (to_bits binary64 x % 2 ^ 63)) (2 ^ 1074)) (of_bits-to_bits binary64 x f) (bits_val (to_bits binary64 x) h)

pub infinite : (x : Float) → T (fits binary64 x) → T (not (is_nan x)) → 2047 * 2 ^ 52 ≤ to_bits binary64 x % 2 ^ 63 → x ≡ inf (leb (2 ^ 63) (to_bits binary64 x))
unfolding is_nan
infinite x f n h = go (eqb (to_bits binary64 x % 2 ^ 52) 0) (sym (of_bits-to_bits binary64 x f) ∙ bits_top (to_bits binary64 x) h)
  where
    go : (t : Bool) → x ≡ cond t (inf (leb (2 ^ 63) (to_bits binary64 x))) nan → x ≡ inf (leb (2 ^ 63) (to_bits binary64 x))
    go true e = e
    go false e = absurd (subst (λ (v : Float). T (not (is_nan v))) e n)

-- 1.0 / 0.0
pub div_one_zero : div binary64 one +0 ≡ inf false
unfolding div of_bits
div_one_zero = refl

-- ---- by the value

-- the magnitude of a finite float, in units
pub units_of_lem : (m : ℕ) (e : ℤ) (n : ℕ) → m * up e * 2 ^ 1074 ≡ n * down e → m * up e * 2 ^ 1074 / down e ≡ n
units_of_lem m e n h = ap (λ (x : ℕ). x / down e) h ∙ mul-div_cancel n (down_pos e)

-- the pattern of a finite float is decided by its sign and its magnitude of n units
abbrev pattern_at : Bool → ℕ → ℕ
pattern_at s n = let k = size n - 53 in cond s (2 ^ 63) 0 + k * 2 ^ 52 + n / 2 ^ k

pattern_of : (v : Float) (s : Bool) (n : ℕ) → HasValue v s n (2 ^ 1074) → to_bits binary64 v ≡ pattern_at s n
unfolding to_bits
pattern_of nan s n h = absurd h
pattern_of (inf t) s n h = absurd h
pattern_of (fin t m e) s n h = rw (h.0, units_of_lem m e n h.1)

-- so there is one float of the format with that value
pub same_value : (v w : Float) (s : Bool) (n : ℕ) → T (fits binary64 v) → T (fits binary64 w) → HasValue v s n (2 ^ 1074) → HasValue w s n (2 ^ 1074) → v ≡ w
same_value v w s n f g h k =
    sym (of_bits-to_bits binary64 v f) ∙ ap (λ (b : ℕ). of_bits binary64 b) (pattern_of v s n h ∙ sym (pattern_of w s n k)) ∙ of_bits-to_bits binary64 w g

-- ---- a whole number as a float is no NaN

odd_no_nan : (d : ℕ) (s : Bool) (q k l : ℕ) → T (not (is_nan (odd d s q k l)))
unfolding odd is_nan
odd_no_nan d s zero k l = tt
odd_no_nan d s (suc q) k l = tt

units_no_nan : (q k : ℕ) → T (not (is_nan (units binary64 false q k)))
unfolding units is_nan
units_no_nan q k = go (ltb (q * 2 ^ k) (2 ^ 2098))
  where
    go : (b : Bool) → T (not (is_nan (cond b (odd 54 false q k 1074) (inf false))))
    go true = odd_no_nan 54 false q k 1074
    go false = tt

round_no_nan : (a b : ℕ) → T (not (is_nan (round binary64 false a b)))
unfolding round
round_no_nan a b =
    let n = a * 2 ^ 1074 in
    let k = size (n / b) - 53 in
    let u = b * 2 ^ k in
    units_no_nan (nearest (n / u) (compare (n % u * 2) u)) k

pub whole_no_nan : (n : ℕ) → T (not (is_nan (of_int binary64 (pos n))))
unfolding of_int
whole_no_nan n = round_no_nan n 1

-- ---- a finite float of the format

infinite_not : (s : Bool) → finite (inf s) ≡ false
unfolding finite
infinite_not s = refl

-- its pattern is below infinity's
pub finite_pattern : (x : Float) → T (fits binary64 x) → finite x ≡ true → to_bits binary64 x % 2 ^ 63 < 2047 * 2 ^ 52
finite_pattern x f h = elim (lt_or_le (to_bits binary64 x % 2 ^ 63) (2047 * 2 ^ 52)) [
  | inl l ↦ l
  | inr g ↦ false_true (sym (ap finite (infinite x f (finite_no_nan x h) g) ∙ infinite_not _) ∙ h)
]

pub finite_value : (x : Float) → T (fits binary64 x) → finite x ≡ true → HasValue x (leb (2 ^ 63) (to_bits binary64 x)) (amount (to_bits binary64 x % 2 ^ 63)) (2 ^ 1074)
finite_value x f h = value x f (finite_pattern x f h)

-- a value is finite, and a positive one has the sign clear and some units
pub value_finite : (x : Float) (s : Bool) (n : ℕ) → HasValue x s n (2 ^ 1074) → finite x ≡ true
unfolding finite
value_finite nan s n h = absurd h
value_finite (inf t) s n h = absurd h
value_finite (fin t m e) s n h = refl

pub above_zero : (x : Float) (s : Bool) (n : ℕ) → lt +0 x ≡ true → HasValue x s n (2 ^ 1074) → (s ≡ false) × (0 < n)
unfolding lt of_bits
above_zero nan s n h v = absurd v
above_zero (inf t) s n h v = absurd v
above_zero (fin true m e) s n h v = false_true h
above_zero (fin false m e) s n h v = (sym v.0, some (m * up e) n (down e) (ltb-true (0 * down e) (m * up e * 1) h) v.1)
  where
    some : (a n d : ℕ) → 0 * d < a * 1 → a * 2 ^ 1074 ≡ n * d → 0 < n
    some a n d h e = first_pos n d (subst (λ (x : ℕ). 0 < x) e (mul-pos (let z : 0 < a = omega (arith, zero-mul d) in z) (pow_pos 1074)))

pub below_zero : (x : Float) (s : Bool) (n : ℕ) → lt x +0 ≡ true → HasValue x s n (2 ^ 1074) → (s ≡ true) × (0 < n)
unfolding lt of_bits
below_zero nan s n h v = absurd v
below_zero (inf t) s n h v = absurd v
below_zero (fin false m e) s n h v = absurd (omega (arith, ltb-true (m * up e * 1) (0 * down e) h, zero-mul (down e)))
below_zero (fin true m e) s n h v = (sym v.0, some (m * up e) n (down e) (ltb-true 0 (m * up e * 1 + 0 * down e) h) v.1)
  where
    some : (a n d : ℕ) → 0 < a * 1 + 0 * d → a * 2 ^ 1074 ≡ n * d → 0 < n
    some a n d h e = first_pos n d (subst (λ (x : ℕ). 0 < x) e (mul-pos (let z : 0 < a = omega (arith, zero-mul d) in z) (pow_pos 1074)))
