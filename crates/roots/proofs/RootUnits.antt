-- `root_units` is the nearest value at every n, even at a tie; and of m * 2 ^ j, as a square root asks for it, there is no tie. Assumes nothing.
use mathlib.Core.Path.{◌≡◌, refl, sym, ap, ◌∙◌, subst}
use mathlib.Core.Bool.{false}
use mathlib.Core.Logic.{inl, inr}
use Prim.Native.Nat.{ℕ, suc, ◌+◌, ◌-◌, ◌*◌, ◌/◌, ◌^◌, ◌≤◌, ◌<◌, compare, Ordering}
use native.Mathlib.Nat.{mul-le-mul, mul-le-mul_left, mul-le-mul_right, mul-lt-mul_of_pos_right, mul-pos, lt_of_lt_of_le, lt_of_le_of_lt, lt_of_mul-lt-mul_right, le_of_suc-le-suc, le_trans, mul_assoc, one-mul, eq_of_mul-eq-mul_right, div-lt_iff_lt-mul, le-div_iff_mul-le}
use native.Mathlib.Omega.{arith}
use lib.Dec.{lit<}
use lib.Pow.{pow_pos, pow-add, pow_mono}
use lib.Ieee.{Float, binary64, size, nearest, units}
use lib.Ieee.Digits.{size-lt, size-le, size_reaches}
use lib.Ieee.Exact.{HasValue, units_val}
use Rattle.laws.proofs.Comparing.{lt_or_le, is_lt, is_eq, is_gt, size_gt}
use Rattle.laws.proofs.Patterns.{Held}
use Rattle.roots.specs.Root.{sq, isqrt, root_units, root_of}
use Rattle.roots.specs.Nearest.{IsNearestAlone, IsNearestEven, IsFloorRoot}
use Rattle.roots.proofs.Squares.{sq_lt_back, isqrt_is}
use Rattle.roots.proofs.Rounding.{square_pow}
use Rattle.roots.proofs.AtPatterns.{root_val, mag_pos}
use Rattle.roots.proofs.Neighbours.{split_pow, nearest_low, nearest_high, nearest_even}

-- ---- the root of m * 2 ^ j is never in the middle of two values: its square would be odd, and larger than m

odd_square : (w t : ℕ) → sq (2 * w + 1) ≡ 2 * t → ⊥
odd_square w t e = omega arith

pub no_tie : (m j k w : ℕ) → m < 2 ^ 53 → 2 ^ 52 ≤ w → 4 * (m * 2 ^ j) ≡ sq ((2 * w + 1) * 2 ^ k) → ⊥
no_tie m j k w h W e = elim (lt_or_le (k * 2) (j + 2)) [
  | inl l ↦
      let p : 2 ^ (j + 2) ≡ 2 ^ (j + 2 - k * 2) * 2 ^ (k * 2) = split_pow (j + 2) (k * 2) (omega arith) in
      let t : 2 ^ (j + 2 - k * 2) ≡ 2 * 2 ^ (j + 1 - k * 2) = ap (λ (x : ℕ). 2 ^ x) (let z : j + 2 - k * 2 ≡ 1 + (j + 1 - k * 2) = omega arith in z) ∙ pow-add 2 1 (j + 1 - k * 2) in
      let f : m * (2 * 2 ^ (j + 1 - k * 2) * 2 ^ (k * 2)) ≡ m * 2 ^ (j + 2) = ap (λ (x : ℕ). m * x) (ap (λ (x : ℕ). x * 2 ^ (k * 2)) (sym t) ∙ sym p) in
      odd_square w (m * 2 ^ (j + 1 - k * 2)) (eq_of_mul-eq-mul_right (2 ^ (k * 2)) (pow_pos (k * 2)) _ _ (let z : sq (2 * w + 1) * 2 ^ (k * 2) ≡ 2 * (m * 2 ^ (j + 1 - k * 2)) * 2 ^ (k * 2) = omega (arith, both) in z))
  | inr g ↦
      let a : 2 ^ (j + 2) ≤ 2 ^ (k * 2) = pow_mono g in
      let b : m < sq (2 * w + 1) = lt_of_lt_of_le h (le_trans (let z : 2 ^ 53 ≤ 2 * w + 1 = omega arith in z) (let z : 2 * w + 1 ≤ sq (2 * w + 1) = omega arith in z)) in
      let c : m * 2 ^ (j + 2) < sq (2 * w + 1) * 2 ^ (k * 2) = lt_of_lt_of_le (mul-lt-mul_of_pos_right b (pow_pos (j + 2))) (mul-le-mul_left (sq (2 * w + 1)) a) in
      omega (arith, both)
]
  where
    four : m * 2 ^ (j + 2) ≡ 4 * (m * 2 ^ j)
    four = ap (λ (x : ℕ). m * x) (pow-add 2 j 2) ∙ (let z : m * (2 ^ j * 4) ≡ 4 * (m * 2 ^ j) = omega arith in z)

    square : sq ((2 * w + 1) * 2 ^ k) ≡ sq (2 * w + 1) * 2 ^ (k * 2)
    square = (let z : sq ((2 * w + 1) * 2 ^ k) ≡ sq (2 * w + 1) * sq (2 ^ k) = omega arith in z) ∙ ap (λ (x : ℕ). sq (2 * w + 1) * x) (sym (square_pow k))

    both : m * 2 ^ (j + 2) ≡ sq (2 * w + 1) * 2 ^ (k * 2)
    both = four ∙ e ∙ square

-- ---- so `root_units` is the nearest value

abbrev pub At : ℕ → Float → Type 0
At n v = (r : ℕ) × HasValue v false r (2 ^ 1074) × IsNearestAlone n r

-- k and w as `root_units` has them
module _ (n k w : ℕ) (K : suc (size n) / 2 - 53 ≡ k) (F : IsFloorRoot (n / sq (2 ^ k)) w) where
  pos : 0 < sq (2 ^ k)
  pos = mul-pos (pow_pos k) (pow_pos k)

  lo : sq w * sq (2 ^ k) ≤ n
  lo = (le-div_iff_mul-le pos).0 F.low

  hi : n < sq (suc w) * sq (2 ^ k)
  hi = (div-lt_iff_lt-mul pos).0 F.high

  scale : (c : ℕ) → 2 ^ (c + c + k * 2) ≡ sq (2 ^ c) * sq (2 ^ k)
  scale c = pow-add 2 (c + c) (k * 2) ∙ ap (λ (x : ℕ). x * 2 ^ (k * 2)) (pow-add 2 c c) ∙ ap (λ (x : ℕ). sq (2 ^ c) * x) (square_pow k)

  least : 106 < size n → 2 ^ 52 ≤ w
  least g =
      let a : 2 ^ (52 + 52 + k * 2) ≤ n = size_reaches n (52 + 52 + k * 2) (let z : 52 + 52 + k * 2 < size n = omega arith in z) in
      le_of_suc-le-suc (sq_lt_back (2 ^ 52) (suc w) (lt_of_mul-lt-mul_right (sq (2 ^ k)) (lt_of_le_of_lt (subst (λ (x : ℕ). x ≤ n) (scale 52) a) hi)))

  most : w < 2 ^ 53
  most =
      let a : n < 2 ^ (53 + 53 + k * 2) = lt_of_lt_of_le (size-lt n) (pow_mono (let z : size n ≤ 53 + 53 + k * 2 = omega arith in z)) in
      sq_lt_back w (2 ^ 53) (lt_of_mul-lt-mul_right (sq (2 ^ k)) (lt_of_le_of_lt lo (subst (λ (x : ℕ). n < x) (scale 53) a)))

  full_or_low : Held w k
  full_or_low = elim (lt_or_le 106 (size n)) [ inl g ↦ inl (least g) | inr g ↦ inr (let z : k ≡ 0 = omega arith in z) ]

-- At any n, `root_units` is the nearest value, and of two the even one. (`units` makes an infinity of what is beyond the format.)
pub units_even : (n : ℕ) → (q : ℕ) × (k : ℕ) × (root_units n ≡ units binary64 false q k) × IsNearestEven n q k
unfolding root_units
units_even n =
    let k = suc (size n) / 2 - 53 in
    let w = isqrt (n / sq (2 ^ k)) in
    let F = isqrt_is (n / sq (2 ^ k)) in
    let o = compare (4 * n) (sq ((2 * w + 1) * 2 ^ k)) in
    (nearest w o, k, refl, nearest_even n k w (lo n k w refl F) (hi n k w refl F) (full_or_low n k w refl F) (most n k w refl F) o refl)

module _ (m j : ℕ) (some : 0 < m) (few : m < 2 ^ 53) (low : 1074 ≤ j) (high : j ≤ 4000) where
  big : 2 ^ 1074 ≤ m * 2 ^ j
  big = le_trans (pow_mono low) (let a : 1 * 2 ^ j ≤ m * 2 ^ j = mul-le-mul_right (2 ^ j) some in subst (λ (x : ℕ). x ≤ m * 2 ^ j) (one-mul (2 ^ j)) a)

  digits_low : 1074 < size (m * 2 ^ j)
  digits_low = size_gt (m * 2 ^ j) 1074 big

  digits_high : size (m * 2 ^ j) ≤ 53 + j
  digits_high = size-le (m * 2 ^ j) (53 + j) (subst (λ (x : ℕ). m * 2 ^ j < x) (sym (pow-add 2 53 j)) (mul-lt-mul_of_pos_right few (pow_pos j)))

  module _ (k w : ℕ) (K : suc (size (m * 2 ^ j)) / 2 - 53 ≡ k) (F : IsFloorRoot (m * 2 ^ j / sq (2 ^ k)) w) where
    fits_top : (q : ℕ) → q ≤ 2 ^ 53 → q * 2 ^ k < 2 ^ 2098
    fits_top q h =
        let z : k ≤ 2044 = omega (arith, digits_high) in
        lt_of_le_of_lt (mul-le-mul h (pow_mono z)) (lit< tt)

    by_cases : (o : Ordering) → compare (4 * (m * 2 ^ j)) (sq ((2 * w + 1) * 2 ^ k)) ≡ o → At (m * 2 ^ j) (units binary64 false (nearest w o) k)
    by_cases o c =
        let n = m * 2 ^ j in
        let W : 2 ^ 52 ≤ w = least n k w K F (omega (arith, digits_low)) in
        let W' = most n k w K F in
        go o c W W'
      where
        go : (o : Ordering) → compare (4 * (m * 2 ^ j)) (sq ((2 * w + 1) * 2 ^ k)) ≡ o → 2 ^ 52 ≤ w → w < 2 ^ 53 → At (m * 2 ^ j) (units binary64 false (nearest w o) k)
        go Ordering.lt c W W' = (w * 2 ^ k, units_val binary64 false w k (fits_top w (omega arith)), nearest_low (m * 2 ^ j) k w (lo (m * 2 ^ j) k w K F) (hi (m * 2 ^ j) k w K F) (inl W) W' (is_lt _ _ c))
        go Ordering.eq c W W' = absurd (no_tie m j k w few W (is_eq _ _ c))
        go Ordering.gt c W W' = (suc w * 2 ^ k, units_val binary64 false (suc w) k (fits_top (suc w) W'), nearest_high (m * 2 ^ j) k w (lo (m * 2 ^ j) k w K F) (hi (m * 2 ^ j) k w K F) (inl W) W' (is_gt _ _ c))

  pub units_alone : At (m * 2 ^ j) (root_units (m * 2 ^ j))
  unfolding root_units
  units_alone =
      let k = suc (size (m * 2 ^ j)) / 2 - 53 in
      by_cases k (isqrt (m * 2 ^ j / sq (2 ^ k))) refl (isqrt_is (m * 2 ^ j / sq (2 ^ k))) (compare (4 * (m * 2 ^ j)) (sq ((2 * isqrt (m * 2 ^ j / sq (2 ^ k)) + 1) * 2 ^ k))) refl

-- The root of a positive value of m * 2 ^ j units is the one value nearest to it.
pub root_units_alone : (x : Float) (m j : ℕ) → 0 < m → m < 2 ^ 53 → j ≤ 2045 → HasValue x false (m * 2 ^ j) (2 ^ 1074) → At (m * 2 ^ j * 2 ^ 1074) (root_of x)
root_units_alone x m j some few top v =
    let e : m * 2 ^ (j + 1074) ≡ m * 2 ^ j * 2 ^ 1074 = ap (λ (y : ℕ). m * y) (pow-add 2 j 1074) ∙ sym (mul_assoc m (2 ^ j) (2 ^ 1074)) in
    let r : root_units (m * 2 ^ (j + 1074)) ≡ root_of x = ap root_units e ∙ sym (root_val x false (m * 2 ^ j) v ∙ mag_pos (m * 2 ^ j) (mul-pos some (pow_pos j))) in
    subst (λ (n : ℕ). At n (root_of x)) e
    (subst (λ (z : Float). At (m * 2 ^ (j + 1074)) z) r (units_alone m (j + 1074) some few (omega arith) (omega arith)))
