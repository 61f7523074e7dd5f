-- A root between two neighbours w and w + 1, both times 2 ^ k: which of the two, or at a tie the even one, is nearest among all values of 53 digits. Assumes nothing.
use mathlib.Core.Path.{◌≡◌, refl, sym, ap, ◌∙◌, subst}
use mathlib.Core.Logic.{inl, inr}
use Prim.Native.Nat.{ℕ, zero, suc, ◌+◌, ◌-◌, ◌*◌, ◌%◌, ◌^◌, ◌≤◌, ◌<◌, compare, Ordering}
use native.Mathlib.Nat.{mul-le-mul_right, mul-lt-mul_of_pos_right, lt_of_lt_of_le, lt_of_le_of_lt, lt_of_mul-lt-mul_right, mul_assoc, not-le_of_lt, le_of_lt}
use native.Mathlib.Omega.{arith}
use lib.Dec.{lit<}
use lib.Pow.{pow_pos, pow-add, pow_mono}
use lib.Ieee.{nearest}
use Rattle.laws.proofs.Comparing.{lt_or_le, is_lt, is_eq, is_gt}
use Rattle.laws.proofs.Patterns.{Held}
use Rattle.roots.specs.Root.{sq}
use Rattle.roots.specs.Nearest.{Counted, IsNearestAlone, IsNearestEven}
use Rattle.roots.proofs.Squares.{sq_mono}

-- ---- the values of the format above v * 2 ^ k, where v has all its digits

pub split_pow : (j k : ℕ) → k ≤ j → 2 ^ j ≡ 2 ^ (j - k) * 2 ^ k
split_pow j k h = ap (λ (x : ℕ). 2 ^ x) (let e : j ≡ j - k + k = omega arith in e) ∙ pow-add 2 (j - k) k

next_full : (v k y : ℕ) → 2 ^ 52 ≤ v → Counted y → v * 2 ^ k < y → suc v * 2 ^ k ≤ y
next_full v k y h (m, j, l, e) g = elim (lt_or_le j k) [
  | inl i ↦
      let p : 2 ^ k ≡ 2 ^ (k - suc j) * 2 ^ suc j = split_pow k (suc j) i in
      let a : 2 ^ suc j ≤ 2 ^ k = pow_mono i in
      let t : 2 ^ suc j ≡ 2 ^ j * 2 = ap (λ (x : ℕ). 2 ^ x) (let z : suc j ≡ j + 1 = omega arith in z) ∙ pow-add 2 j 1 in
      let b : m * 2 ^ j < 2 ^ 53 * 2 ^ j = mul-lt-mul_of_pos_right l (pow_pos j) in
      let c : 2 ^ 52 * 2 ^ k ≤ v * 2 ^ k = mul-le-mul_right (2 ^ k) h in
      absurd (omega arith)
  | inr i ↦
      let p : 2 ^ j ≡ 2 ^ (j - k) * 2 ^ k = split_pow j k i in
      let f : y ≡ m * 2 ^ (j - k) * 2 ^ k = e ∙ ap (λ (x : ℕ). m * x) p ∙ sym (mul_assoc m (2 ^ (j - k)) (2 ^ k)) in
      let a : v < m * 2 ^ (j - k) = lt_of_mul-lt-mul_right (2 ^ k) (subst (λ (x : ℕ). v * 2 ^ k < x) f g) in
      subst (λ (x : ℕ). suc v * 2 ^ k ≤ x) (sym f) (mul-le-mul_right (2 ^ k) a)
]

pub next : (v k y : ℕ) → Held v k → Counted y → v * 2 ^ k < y → suc v * 2 ^ k ≤ y
next v k y (inl h) c g = next_full v k y h c g
next v k y (inr z) c g =
    let a : v * 2 ^ 0 < y = subst (λ (x : ℕ). v * 2 ^ x < y) z g in
    subst (λ (x : ℕ). suc v * 2 ^ x ≤ y) (sym z) (omega arith)

pub counted_at : (q k : ℕ) → q ≤ 2 ^ 53 → Counted (q * 2 ^ k)
counted_at q k h = elim (lt_or_le q (2 ^ 53)) [
  | inl l ↦ (q, k, l, refl)
  | inr g ↦
      let e : q ≡ 2 ^ 52 * 2 ^ 1 = omega arith in
      (2 ^ 52, 1 + k, lit< tt, ap (λ (x : ℕ). x * 2 ^ k) e ∙ mul_assoc (2 ^ 52) (2 ^ 1) (2 ^ k) ∙ ap (λ (x : ℕ). 2 ^ 52 * x) (sym (pow-add 2 1 k)))
]

-- ---- w * 2 ^ k and (w + 1) * 2 ^ k, and every other value

module _ (n k w : ℕ) (lo : sq w * sq (2 ^ k) ≤ n) (hi : n < sq (suc w) * sq (2 ^ k)) (W : Held w k) (W' : w < 2 ^ 53) where
  low_below : (y : ℕ) → y < w * 2 ^ k → sq (y + w * 2 ^ k) < 4 * n
  low_below y l =
      let r = w * 2 ^ k in
      let a : suc (y + r) ≤ r + r = omega arith in
      let s : sq (suc (y + r)) ≤ sq (r + r) = sq_mono a in
      let z : sq (y + r) < sq (suc (y + r)) = omega arith in
      omega arith

  low_above : (y : ℕ) → Counted y → w * 2 ^ k < y → sq ((2 * w + 1) * 2 ^ k) ≤ sq (y + w * 2 ^ k)
  low_above y c l =
      let a : suc w * 2 ^ k ≤ y = next w k y W c l in
      sq_mono (let b : (2 * w + 1) * 2 ^ k ≤ y + w * 2 ^ k = omega arith in b)

  high_below : (y : ℕ) → Counted y → y < suc w * 2 ^ k → sq (y + suc w * 2 ^ k) ≤ sq ((2 * w + 1) * 2 ^ k)
  high_below y c l =
      let a : y ≤ w * 2 ^ k = elim (lt_or_le (w * 2 ^ k) y) [ inl g ↦ absurd (not-le_of_lt l (next w k y W c g)) | inr g ↦ g ] in
      sq_mono (let b : y + suc w * 2 ^ k ≤ (2 * w + 1) * 2 ^ k = omega arith in b)

  high_above : (y : ℕ) → suc w * 2 ^ k < y → 4 * n < sq (y + suc w * 2 ^ k)
  high_above y l =
      let r = suc w * 2 ^ k in
      let s : sq (r + r) ≤ sq (y + r) = sq_mono (let b : r + r ≤ y + r = omega arith in b) in
      omega arith

  pub nearest_low : 4 * n < sq ((2 * w + 1) * 2 ^ k) → IsNearestAlone n (w * 2 ^ k)
  nearest_low h = record { held = (w, k, W', refl); below = λ y c l. low_below y l; above = λ y c l. lt_of_lt_of_le h (low_above y c l) }

  pub nearest_high : sq ((2 * w + 1) * 2 ^ k) < 4 * n → IsNearestAlone n (suc w * 2 ^ k)
  nearest_high h = record { held = counted_at (suc w) k W'; below = λ y c l. lt_of_le_of_lt (high_below y c l) h; above = λ y c l. high_above y l }

  -- one that is nearest alone is the nearest even one
  alone : (q : ℕ) → Held q k → q ≤ 2 ^ 53 → IsNearestAlone n (q * 2 ^ k) → IsNearestEven n q k
  alone q H Q N = record {
    full = H;
    most = Q;
    below = λ y c l. le_of_lt (N.below y c l);
    above = λ y c l. le_of_lt (N.above y c l);
    even = λ y c d e. absurd (elim (lt_or_le y (q * 2 ^ k)) [
      | inl l ↦ let a = N.below y c l in omega arith
      | inr g ↦ let a = N.above y c (let b : q * 2 ^ k < y = omega arith in b) in omega arith
    ]);
  }

  up_held : Held (suc w) k
  up_held = elim W [ inl l ↦ inl (omega arith) | inr z ↦ inr z ]

  tie_low : 4 * n ≡ sq ((2 * w + 1) * 2 ^ k) → w % 2 ≡ 0 → IsNearestEven n w k
  tie_low e z = record {
    full = W;
    most = omega arith;
    below = λ y c l. le_of_lt (low_below y l);
    above = λ y c l. subst (λ (x : ℕ). x ≤ sq (y + w * 2 ^ k)) (sym e) (low_above y c l);
    even = λ y c d f. z;
  }

  tie_high : 4 * n ≡ sq ((2 * w + 1) * 2 ^ k) → w % 2 ≡ 1 → IsNearestEven n (suc w) k
  tie_high e z = record {
    full = up_held;
    most = W';
    below = λ y c l. subst (λ (x : ℕ). sq (y + suc w * 2 ^ k) ≤ x) (sym e) (high_below y c l);
    above = λ y c l. le_of_lt (high_above y l);
    even = λ y c d f. omega arith;
  }

  tie : (p : ℕ) → w % 2 ≡ p → 4 * n ≡ sq ((2 * w + 1) * 2 ^ k) → IsNearestEven n (w + p) k
  tie zero z e = subst (λ (x : ℕ). IsNearestEven n x k) (let a : w ≡ w + 0 = omega arith in a) (tie_low e z)
  tie (suc zero) z e = subst (λ (x : ℕ). IsNearestEven n x k) (let a : suc w ≡ w + 1 = omega arith in a) (tie_high e z)
  tie (suc (suc p)) z e = absurd (omega arith)

  pub nearest_even : (o : Ordering) → compare (4 * n) (sq ((2 * w + 1) * 2 ^ k)) ≡ o → IsNearestEven n (nearest w o) k
  nearest_even Ordering.lt c = alone w W (omega arith) (nearest_low (is_lt _ _ c))
  nearest_even Ordering.eq c = tie (w % 2) refl (is_eq _ _ c)
  nearest_even Ordering.gt c = alone (suc w) up_held W' (nearest_high (is_gt _ _ c))
