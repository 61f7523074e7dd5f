-- Bit patterns of binary64 with the sign clear: the fields and the value that they stand for, the pattern of so many units (2 ^ -1074, the format's smallest value), and the
-- significand and exponent of a pattern. Assumes nothing.
use mathlib.Core.Path.{◌≡◌, refl, sym, ap, ◌∙◌, subst}
use mathlib.Core.Bool.{Bool, false, not, cond}
use mathlib.Core.Logic.{◌⊎◌, inl, inr}
use Prim.Native.Nat.{ℕ, zero, suc, ◌+◌, ◌-◌, ◌*◌, ◌/◌, ◌%◌, ◌^◌, ◌≤◌, ◌<◌}
use native.Mathlib.Nat.{mul-le-mul_left, mod-eq_of_lt, lt_of_lt_of_le, lt_of_le_of_lt, eq-or-lt_of_le, mul-lt-mul_of_pos_right}
use native.Mathlib.Omega.{arith}
use borrow.Author.Tests.{lt-ltb, le-ltb, lt-leb, ne_eqb}
use lib.Dec.{T, lit<, lit≤, leb, ltb, eqb}
use lib.Arith.{digits_div, digits_mod}
use lib.Pow.{pow_pos, pow_mono}
use lib.Count.{count_trailing_zeros, under}
use lib.Ieee.{inf, fin, binary64, minus, odd, units, of_fields, of_bits, nan_bits}
use Rattle.laws.proofs.Floats.{not_nan_of}
use Rattle.laws.proofs.Comparing.{lt_or_le}

-- ---- a pattern of two fields with the sign clear

pub of_fields_lem : (x t : ℕ) → x < 2048 → t < 2 ^ 52 → of_bits binary64 (x * 2 ^ 52 + t) ≡ of_fields binary64 false x t
unfolding of_bits
of_fields_lem x t X H =
    let b = x * 2 ^ 52 + t in
    let l : b < 2 ^ 63 = omega arith in
    let s : leb (2 ^ 63) b ≡ false = lt-leb (2 ^ 63) b l in
    let m : b % 2 ^ 63 ≡ b = mod-eq_of_lt l in
    let d : b / 2 ^ 52 ≡ x = digits_div x H in
    let r : b % 2 ^ 52 ≡ t = digits_mod x H in
    rw (s, m, d, r)

pub normal_fields : (x t : ℕ) → x < 2046 → of_fields binary64 false (suc x) t ≡ odd 53 false (2 ^ 52 + t) x 1074
unfolding of_fields
normal_fields x t h =
    let e : eqb (suc x) 2047 ≡ false = ne_eqb (suc x) 2047 (λ (z : suc x ≡ 2047). omega arith) in
    rw e

pub low_fields : (t : ℕ) → of_fields binary64 false 0 t ≡ odd 53 false t 0 1074
unfolding of_fields
low_fields t = refl

-- ---- one digit more to look at changes nothing

under_same : (r t u : ℕ) → (r ≡ 0 → t ≡ u) → under r t ≡ under r u
under_same zero t u h = ap suc (h refl)
under_same (suc r) t u h = refl

zeros_more : (d q : ℕ) → 0 < q → q < 2 ^ d → count_trailing_zeros (suc d) q ≡ count_trailing_zeros d q
unfolding count_trailing_zeros
zeros_more zero q p h = absurd (omega arith)
zeros_more (suc d) q p h = under_same (q % 2) (count_trailing_zeros (suc d) (q / 2)) (count_trailing_zeros d (q / 2)) (λ (z : q % 2 ≡ 0). zeros_more d (q / 2) (omega arith) (omega arith))

odd_more : (d : ℕ) (s : Bool) (q k l : ℕ) → q < 2 ^ d → odd (suc d) s q k l ≡ odd d s q k l
unfolding odd
odd_more d s zero k l h = refl
odd_more d s (suc q) k l h = ap (λ (t : ℕ). fin s (suc q / 2 ^ t) (minus (k + t) l)) (zeros_more d (suc q) (omega arith) h)

-- ---- the pattern of q * 2 ^ k units

units_odd : (q k : ℕ) → q * 2 ^ k < 2 ^ 2098 → units binary64 false q k ≡ odd 54 false q k 1074
unfolding units
units_odd q k l = rw (lt-ltb (q * 2 ^ k) (2 ^ 2098) l)

-- the product of a number below 2 ^ 53 and 2 ^ k is below the overflow for each exponent of the format
below_top : (q k : ℕ) → q < 2 ^ 53 → k ≤ 2045 → q * 2 ^ k < 2 ^ 2098
below_top q k h j = lt_of_lt_of_le (mul-lt-mul_of_pos_right h (pow_pos k)) (mul-le-mul_left (2 ^ 53) (pow_mono j))

plain : (q k : ℕ) → 2 ^ 52 ≤ q → q < 2 ^ 53 → k ≤ 2045 → of_bits binary64 (k * 2 ^ 52 + q) ≡ units binary64 false q k
plain q k a b j =
    let e : k * 2 ^ 52 + q ≡ suc k * 2 ^ 52 + (q - 2 ^ 52) = omega arith in
    let g : 2 ^ 52 + (q - 2 ^ 52) ≡ q = omega arith in
    ap (λ (x : ℕ). of_bits binary64 x) e
    ∙ of_fields_lem (suc k) (q - 2 ^ 52) (omega arith) (omega arith)
    ∙ normal_fields k (q - 2 ^ 52) (omega arith)
    ∙ ap (λ (x : ℕ). odd 53 false x k 1074) g
    ∙ sym (odd_more 53 false q k 1074 b)
    ∙ sym (units_odd q k (below_top q k b j))

-- 2 ^ 53 * 2 ^ k is 2 ^ 52 * 2 ^ (k + 1)
odd_full : (k : ℕ) → odd 54 false (2 ^ 53) k 1074 ≡ odd 53 false (2 ^ 52 + 0) (suc k) 1074
unfolding odd count_trailing_zeros
odd_full k = ap (λ (x : ℕ). fin false 1 (minus x 1074)) (let e : k + 53 ≡ suc k + 52 = omega arith in e)

full : (k : ℕ) → k ≤ 2044 → of_bits binary64 (k * 2 ^ 52 + 2 ^ 53) ≡ units binary64 false (2 ^ 53) k
full k j =
    let e : k * 2 ^ 52 + 2 ^ 53 ≡ suc (suc k) * 2 ^ 52 + 0 = omega arith in
    ap (λ (x : ℕ). of_bits binary64 x) e
    ∙ of_fields_lem (suc (suc k)) 0 (omega arith) (omega arith)
    ∙ normal_fields (suc k) 0 (omega arith)
    ∙ sym (odd_full k)
    ∙ sym (units_odd (2 ^ 53) k (lt_of_le_of_lt (mul-le-mul_left (2 ^ 53) (pow_mono j)) (lit< tt)))

over : of_bits binary64 (2045 * 2 ^ 52 + 2 ^ 53) ≡ units binary64 false (2 ^ 53) 2045
unfolding of_bits units
over = refl

-- the pattern of q * 2 ^ k units: the exponent's field and the digits add up, also where rounding made 2 ^ 53 of q
pub of_units : (q k : ℕ) → 2 ^ 52 ≤ q → q ≤ 2 ^ 53 → k ≤ 2045 → of_bits binary64 (k * 2 ^ 52 + q) ≡ units binary64 false q k
of_units q k a b j = elim (eq-or-lt_of_le b) [
  | inl e ↦ rw e (elim (eq-or-lt_of_le j) [ inl g ↦ rw g over | inr l ↦ full k (omega arith) ])
  | inr l ↦ plain q k a l j
]

-- below 2 ^ 52 a pattern is its number of units
pub of_units_low : (q : ℕ) → q < 2 ^ 52 → of_bits binary64 q ≡ units binary64 false q 0
of_units_low q h =
    let e : q ≡ 0 * 2 ^ 52 + q = omega arith in
    ap (λ (x : ℕ). of_bits binary64 x) e
    ∙ of_fields_lem 0 q (lit< tt) h
    ∙ low_fields q
    ∙ sym (odd_more 53 false q 0 1074 (omega arith))
    ∙ sym (units_odd q 0 (below_top q 0 (omega arith) (lit≤ tt)))

-- the format holds w * 2 ^ k units: w has all its digits, or none is dropped
abbrev pub Held : ℕ → ℕ → Type 0
Held w k = (2 ^ 52 ≤ w) ⊎ (k ≡ 0)

pub of_held : (w k : ℕ) → Held w k → w ≤ 2 ^ 53 → k ≤ 2045 → of_bits binary64 (k * 2 ^ 52 + w) ≡ units binary64 false w k
of_held w k (inl l) h j = of_units w k l h j
of_held w k (inr z) h j = rw z (elim (lt_or_le w (2 ^ 52)) [
  | inl l ↦ ap (λ (x : ℕ). of_bits binary64 x) (let e : 0 * 2 ^ 52 + w ≡ w = omega arith in e) ∙ of_units_low w l
  | inr g ↦ of_units w 0 g h (omega arith)
])

pub inf_pattern : of_bits binary64 (2047 * 2 ^ 52) ≡ inf false
unfolding of_bits
inf_pattern = refl

-- a pattern up to infinity's is no NaN's
pub below_nan : (b : ℕ) → b ≤ 2047 * 2 ^ 52 → T (not (nan_bits binary64 b))
below_nan b h =
    let m : b % 2 ^ 63 ≡ b = mod-eq_of_lt (omega arith) in
    not_nan_of b (ap (λ (x : ℕ). ltb (2047 * 2 ^ 52) x) m ∙ le-ltb (2047 * 2 ^ 52) b (omega arith))

-- ---- the parts of a pattern

-- a bit pattern with the sign clear: its significand, its exponent from the smallest value's, and its amount of smallest values
abbrev pub mant_of : ℕ → ℕ
mant_of b = cond (ltb b (2 ^ 52)) b (b % 2 ^ 52 + 2 ^ 52)

abbrev pub expo_of : ℕ → ℕ
expo_of b = cond (ltb b (2 ^ 52)) 0 (b / 2 ^ 52 - 1)

unfoldable pub amount : ℕ → ℕ
amount b = mant_of b * 2 ^ expo_of b

-- what a pattern's parts are
pub record Parted (b m e : ℕ) : Type 0 where
  pub small : m < 2 ^ 53
  pub sum : e * 2 ^ 52 + m ≡ b
  pub held : Held m e

pub low_parts : (b : ℕ) → b < 2 ^ 52 → (b ≡ mant_of b) × (0 ≡ expo_of b)
low_parts b h = rw (lt-ltb b (2 ^ 52) h) (refl, refl)

pub high_parts : (b : ℕ) → 2 ^ 52 ≤ b → (b % 2 ^ 52 + 2 ^ 52 ≡ mant_of b) × (b / 2 ^ 52 - 1 ≡ expo_of b)
high_parts b h = rw (le-ltb b (2 ^ 52) h) (refl, refl)

pub parted : (b : ℕ) → Parted b (mant_of b) (expo_of b)
parted b = elim (lt_or_le b (2 ^ 52)) [
  | inl l ↦ subst (λ (m : ℕ). Parted b m (expo_of b)) (low_parts b l).0 (subst (λ (e : ℕ). Parted b b e) (low_parts b l).1 record { small = omega arith; sum = omega arith; held = inr refl })
  | inr g ↦ subst (λ (m : ℕ). Parted b m (expo_of b)) (high_parts b g).0 (subst (λ (e : ℕ). Parted b (b % 2 ^ 52 + 2 ^ 52) e) (high_parts b g).1 record { small = omega arith; sum = omega arith; held = inl (omega arith) })
]

pub mant_pos : {b m e : ℕ} → Parted b m e → 0 < b → 0 < m
mant_pos {b} {m} {e} P h = go P.held
  where
    go : Held m e → 0 < m
    go (inl l) = omega arith
    go (inr z) = omega (arith, P.sum)

pub low_expo : {b m e : ℕ} → Parted b m e → m < 2 ^ 52 → e ≡ 0
low_expo {b} {m} {e} P h = go P.held
  where
    go : Held m e → e ≡ 0
    go (inl l) = absurd (omega arith)
    go (inr z) = z

pub expo_le : {b m e : ℕ} → Parted b m e → b < 2047 * 2 ^ 52 → e ≤ 2045
expo_le {b} {m} {e} P h = go P.held
  where
    go : Held m e → e ≤ 2045
    go (inl l) = omega (arith, P.sum)
    go (inr z) = omega arith

pub expo_mono : {a m e b n d : ℕ} → Parted a m e → Parted b n d → b ≤ a → d ≤ e
expo_mono {a} {m} {e} {b} {n} {d} P Q h = go Q.held
  where
    go : Held n d → d ≤ e
    go (inl l) = omega (arith, P.sum, P.small, Q.sum)
    go (inr z) = omega arith

-- a pattern and the parts that code has of it
abbrev pub PartsOf : ℕ → ℕ → ℕ → Type 0
PartsOf b m e = (m ≡ mant_of b) × (e ≡ expo_of b)

pub parted_at : (b m e : ℕ) → PartsOf b m e → Parted b m e
parted_at b m e h = rw (h.0, h.1) (parted b)

pub amount_at : (b m e : ℕ) → PartsOf b m e → m * 2 ^ e ≡ amount b
unfolding amount
amount_at b m e h = rw (h.0, h.1)
