-- Numbers of two limbs, hi * 2 ^ 54 + lo: a square, a part cut off, and the whole root of a sum. Assumes nothing.
use mathlib.Core.Path.{◌≡◌, sym, ap, ◌∙◌}
use Prim.Native.Nat.{ℕ, zero, suc, ◌+◌, ◌-◌, ◌*◌, ◌/◌, ◌%◌, ◌^◌, ◌≤◌, ◌<◌}
use native.Mathlib.Nat.{mul-le-mul_left, mul-le-mul_right, mod-eq_of_lt, mod-lt, div-mul-le_self, div-add-mod', div-lt_iff_lt-mul}
use native.Mathlib.Omega.{arith}
use lib.Pow.{pow_pos, pow-add}
use lib.Dec.{ltb}
use Rattle.std.proofs.lemmas.Bool.{ltb-true, ltb-false}
use Rattle.laws.proofs.Comparing.{product_lt}
use Rattle.roots.specs.Root.{sq}
use Rattle.roots.specs.Inner.{RootPair, Between}
use Rattle.roots.proofs.Squares.{sq_lt_back}

-- ---- the square

-- the high limb of a square
pub high_lt : (q hi lo : ℕ) → q < 2 ^ 54 → hi * 2 ^ 54 + lo ≡ sq q → hi < 2 ^ 54
high_lt q hi lo h e = omega (arith, product_lt q q (2 ^ 54) (2 ^ 54) h h)

by_limbs : (a m c g : ℕ) → g ≡ a * 2 ^ 54 + m * 2 ^ 28 + c → (a + m / 2 ^ 26 + (m % 2 ^ 26 * 2 ^ 28 + c) / 2 ^ 54) * 2 ^ 54 + (m % 2 ^ 26 * 2 ^ 28 + c) % 2 ^ 54 ≡ g
by_limbs a m c g e = omega arith

squared : (h l : ℕ) → sq (h * 2 ^ 27 + l) ≡ h * h * 2 ^ 54 + h * l * 2 ^ 28 + l * l
squared h l = omega arith

pub square_is : (q : ℕ)
    → (q / 2 ^ 27 * (q / 2 ^ 27) + q / 2 ^ 27 * (q % 2 ^ 27) / 2 ^ 26 + (q / 2 ^ 27 * (q % 2 ^ 27) % 2 ^ 26 * 2 ^ 28 + q % 2 ^ 27 * (q % 2 ^ 27)) / 2 ^ 54) * 2 ^ 54
    + (q / 2 ^ 27 * (q % 2 ^ 27) % 2 ^ 26 * 2 ^ 28 + q % 2 ^ 27 * (q % 2 ^ 27)) % 2 ^ 54
    ≡ sq q
square_is q =
    let e : q ≡ q / 2 ^ 27 * 2 ^ 27 + q % 2 ^ 27 = omega arith in
    by_limbs _ _ _ (sq q) (ap sq e ∙ squared (q / 2 ^ 27) (q % 2 ^ 27))

-- ---- a part cut off

module _ (hi lo s : ℕ) (H : hi < 2 ^ 54) (L : lo < 2 ^ 54) (S : s ≤ 52) where
  halves : 2 ^ s * 2 ^ (54 - s) ≡ 2 ^ 54
  halves = sym (pow-add 2 s (54 - s)) ∙ ap (λ (x : ℕ). 2 ^ x) (let e : s + (54 - s) ≡ 54 = omega arith in e)

  pub top_back : (hi / 2 ^ s * 2 ^ s) % 2 ^ 64 ≡ hi / 2 ^ s * 2 ^ s
  top_back = mod-eq_of_lt (omega (arith, div-mul-le_self hi (2 ^ s)))

  pub low_back : (lo / 2 ^ s * 2 ^ s) % 2 ^ 64 ≡ lo / 2 ^ s * 2 ^ s
  low_back = mod-eq_of_lt (omega (arith, div-mul-le_self lo (2 ^ s)))

  mid_lt : hi - hi / 2 ^ s * 2 ^ s < 2 ^ s
  mid_lt = omega (arith, div-add-mod' hi (2 ^ s), mod-lt hi (pow_pos s))

  pub off_lt : lo - lo / 2 ^ s * 2 ^ s < 2 ^ s
  off_lt = omega (arith, div-add-mod' lo (2 ^ s), mod-lt lo (pow_pos s))

  low_lt : lo / 2 ^ s < 2 ^ (54 - s)
  low_lt = (div-lt_iff_lt-mul (pow_pos s)).1 (omega (arith, halves))

  -- the middle part with the low part below it is a limb
  pub limb : (hi - hi / 2 ^ s * 2 ^ s) * 2 ^ (54 - s) + lo / 2 ^ s < 2 ^ 54
  limb = omega (arith, mul-le-mul_right (2 ^ (54 - s)) mid_lt, low_lt, halves)

  pub mid_whole : ((hi - hi / 2 ^ s * 2 ^ s) * 2 ^ (54 - s)) % 2 ^ 64 ≡ (hi - hi / 2 ^ s * 2 ^ s) * 2 ^ (54 - s)
  mid_whole = mod-eq_of_lt (omega (arith, limb))

  pub top_lt : hi / 2 ^ s < 2 ^ 54
  top_lt = omega (arith, mul-le-mul_left (hi / 2 ^ s) (pow_pos s), div-mul-le_self hi (2 ^ s))

  put_back : (t m l p r o : ℕ) → p * r ≡ 2 ^ 54 → t * p + m ≡ hi → l * p + o ≡ lo → (t * 2 ^ 54 + (m * r + l)) * p + o ≡ hi * 2 ^ 54 + lo
  put_back t m l p r o e f g =
      let a : m * (p * r) ≡ m * 2 ^ 54 = ap (λ (x : ℕ). m * x) e in
      omega arith

  pub whole : (hi / 2 ^ s * 2 ^ 54 + ((hi - hi / 2 ^ s * 2 ^ s) * 2 ^ (54 - s) + lo / 2 ^ s)) * 2 ^ s + (lo - lo / 2 ^ s * 2 ^ s) ≡ hi * 2 ^ 54 + lo
  whole = put_back (hi / 2 ^ s) (hi - hi / 2 ^ s * 2 ^ s) (lo / 2 ^ s) (2 ^ s) (2 ^ (54 - s)) (lo - lo / 2 ^ s * 2 ^ s) halves (omega (arith, div-mul-le_self hi (2 ^ s))) (omega (arith, div-mul-le_self lo (2 ^ s)))

-- ---- the whole root of T, where the number is T * p + off

pub between : (n p q r off : ℕ) → (sq q + r) * p + off ≡ n → r ≤ 2 * q → off < p → Between n p q (ltb 0 (r + off))
between n p q r off e h l = record {
  low = omega arith;
  high = omega (arith, mul-le-mul_right p h);
  exact = λ z.
      let f : r + off ≤ 0 = ltb-false 0 (r + off) z in
      let a : r ≡ 0 = omega arith in
      let b : (sq q + 0) * p + off ≡ n = rw a at e in
      omega arith;
  above = λ z. go r e h (ltb-true 0 (r + off) z);
}
  where
    go : (r : ℕ) → (sq q + r) * p + off ≡ n → r ≤ 2 * q → 0 < r + off → sq q * p < n
    go zero e h z = omega arith
    go (suc r) e h z = omega arith

-- the sum of two squares, of which the second lost its last digits
pub sum_is : (xh xl zh zl off p sa sb : ℕ) → xh * 2 ^ 54 + xl ≡ sa → (zh * 2 ^ 54 + zl) * p + off ≡ sb
    → ((xh + zh + (xl + zl) / 2 ^ 54) * 2 ^ 54 + (xl + zl) % 2 ^ 54) * p + off ≡ sa * p + sb
sum_is xh xl zh zl off p sa sb X Z =
    let e : (xh + zh + (xl + zl) / 2 ^ 54) * 2 ^ 54 + (xl + zl) % 2 ^ 54 ≡ sa + (zh * 2 ^ 54 + zl) = omega arith in
    let g : ((xh + zh + (xl + zl) / 2 ^ 54) * 2 ^ 54 + (xl + zl) % 2 ^ 54) * p ≡ (sa + (zh * 2 ^ 54 + zl)) * p = ap (λ (x : ℕ). x * p) e in
    omega arith

-- its whole root
module _ (hi lo off p n q r : ℕ) (N : (hi * 2 ^ 54 + lo) * p + off ≡ n) (P : RootPair (hi * 2 ^ 54 + lo) q r) where
  pub last_small : hi < 2 ^ 55 → lo < 2 ^ 54 → q < 2 ^ 55
  last_small a b = sq_lt_back q (2 ^ 55) (omega (arith, P.sum))

  pub last_between : off < p → Between n p q (ltb 0 (r + off))
  last_between h =
      let e : (sq q + r) * p ≡ (hi * 2 ^ 54 + lo) * p = ap (λ (x : ℕ). x * p) P.sum in
      between n p q r off (omega arith) P.small h

-- ---- a step from g by c, which is a little less than the rest over 2g

abbrev pub step : ℕ → ℕ → ℕ
step g r = r / 2 ^ 40 / (g / 2 ^ 39 + 2)

module _ (g r : ℕ) (few : step g r ≤ 64) where
  pub step_le : step g r * (2 * g + step g r) ≤ r
  step_le = go (step g r) few (div-mul-le_self (r / 2 ^ 40) (g / 2 ^ 39 + 2))
    where
      go : (c : ℕ) → c ≤ 64 → c * (g / 2 ^ 39 + 2) ≤ r / 2 ^ 40 → c * (2 * g + c) ≤ r
      go c k h =
          let b : 2 * g + c ≤ (g / 2 ^ 39 + 2) * 2 ^ 40 = omega arith in
          omega (arith, mul-le-mul_left c b)

  pub step_sum : sq (g + step g r) + (r - step g r * (2 * g + step g r)) ≡ sq g + r
  step_sum = go (step g r) step_le
    where
      go : (c : ℕ) → c * (2 * g + c) ≤ r → sq (g + c) + (r - c * (2 * g + c)) ≡ sq g + r
      go c h = omega arith
