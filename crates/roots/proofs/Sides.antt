-- The two sides of a length, by their bit patterns: significands m and exponents e. Assumes nothing.
use mathlib.Core.Path.{◌≡◌, sym, ap, ◌∙◌, subst}
use mathlib.Core.Bool.{Bool}
use mathlib.Core.Logic.{◌⊎◌, inl, inr}
use Prim.Native.Nat.{ℕ, suc, ◌+◌, ◌-◌, ◌*◌, ◌^◌, ◌≤◌, ◌<◌}
use native.Mathlib.Nat.{mul-le-mul, mul-le-mul_right, mul-lt-mul_of_pos_right, mul-pos, lt_of_lt_of_le, lt_of_mul-lt-mul_right, mul_assoc}
use native.Mathlib.Omega.{arith}
use lib.Pow.{pow_pos, pow-add, pow_mono}
use lib.Ieee.{binary64, of_bits}
use Rattle.laws.proofs.Comparing.{product_lt}
use Rattle.laws.proofs.Patterns.{Held, amount, PartsOf, parted_at, amount_at, expo_le, expo_mono}
use Rattle.roots.specs.Root.{sq, root_units}
use Rattle.roots.specs.Inner.{Between, Floor}
use Rattle.roots.proofs.Squares.{sq_lt_back}
use Rattle.roots.proofs.Rounding.{gap, to_lower}

-- ---- the sum of the squares, from the larger exponent's scale

scaled : {n p q : ℕ} {more : Bool} (c : ℕ) → 0 < c → Between n p q more → Between (n * c) (p * c) q more
scaled {n} {p} {q} {more} c h B = record {
  low = subst (λ (x : ℕ). x ≤ n * c) (mul_assoc (sq q) p c) (mul-le-mul_right c B.low);
  high = subst (λ (x : ℕ). n * c < x) (mul_assoc (sq (suc q)) p c) (mul-lt-mul_of_pos_right B.high h);
  exact = λ z. sym (mul_assoc (sq q) p c) ∙ ap (λ (x : ℕ). x * c) (B.exact z);
  above = λ z. subst (λ (x : ℕ). x < n * c) (mul_assoc (sq q) p c) (mul-lt-mul_of_pos_right (B.above z) h);
}

module _ (m e n d : ℕ) (o : d ≤ e) where
  -- (2 ^ e) ^ 2 by the difference of the exponents
  apart : 2 ^ ((e - d) * 2) * sq (2 ^ d) ≡ sq (2 ^ e)
  apart =
      let a : (e - d) * 2 + (d + d) ≡ e + e = omega arith in
      ap (λ (x : ℕ). 2 ^ ((e - d) * 2) * x) (sym (pow-add 2 d d)) ∙ sym (pow-add 2 ((e - d) * 2) (d + d)) ∙ ap (λ (x : ℕ). 2 ^ x) a ∙ pow-add 2 e e

  four_times : (sq (2 * m) * 2 ^ ((e - d) * 2) + sq (2 * n)) * sq (2 ^ d) ≡ 4 * (sq (m * 2 ^ e) + sq (n * 2 ^ d))
  four_times =
      let a : 4 * sq m * (2 ^ ((e - d) * 2) * sq (2 ^ d)) ≡ 4 * sq m * sq (2 ^ e) = ap (λ (x : ℕ). 4 * sq m * x) apart in
      omega arith

  pub near_between : (q : ℕ) (more : Bool) → Between (sq (2 * m) * 2 ^ ((e - d) * 2) + sq (2 * n)) (2 ^ ((e - d) * 2)) q more
      → Between (4 * (sq (m * 2 ^ e) + sq (n * 2 ^ d))) (sq (2 ^ e)) q more
  near_between q more B =
      subst (λ (x : ℕ). Between x (sq (2 ^ e)) q more) four_times
      (subst (λ (p : ℕ). Between ((sq (2 * m) * 2 ^ ((e - d) * 2) + sq (2 * n)) * sq (2 ^ d)) p q more) apart (scaled (sq (2 ^ d)) (mul-pos (pow_pos d) (pow_pos d)) B))

  -- the sum of the squares by whole squares of the larger exponent's scale
  pub near_floor : (t off : ℕ) → t * 2 ^ ((e - d) * 2) + off ≡ sq m * 2 ^ ((e - d) * 2) + sq n → off < 2 ^ ((e - d) * 2) → Floor (sq (m * 2 ^ e) + sq (n * 2 ^ d)) (sq (2 ^ e)) t
  near_floor t off E L =
      let c = sq (2 ^ d) in
      let p = 2 ^ ((e - d) * 2) in
      let a : (sq m + t) * (p * c) ≡ (sq m + t) * sq (2 ^ e) = ap (λ (x : ℕ). (sq m + t) * x) apart in
      let b : sq m * (p * c) ≡ sq m * sq (2 ^ e) = ap (λ (x : ℕ). sq m * x) apart in
      let f : (t * p + off) * c ≡ (sq m * p + sq n) * c = ap (λ (x : ℕ). x * c) E in
      let g : off * c < p * c = mul-lt-mul_of_pos_right L (mul-pos (pow_pos d) (pow_pos d)) in
      (omega (arith, apart), omega (arith, apart))

  -- the root is no less than the larger side
  pub near_held : (q : ℕ) (more : Bool) → Between (sq (2 * m) * 2 ^ ((e - d) * 2) + sq (2 * n)) (2 ^ ((e - d) * 2)) q more → Held m e → (2 ^ 53 ≤ q) ⊎ (e ≡ 0)
  near_held q more B (inr z) = inr z
  near_held q more B (inl l) =
      let a : sq (2 * m) * 2 ^ ((e - d) * 2) < sq (suc q) * 2 ^ ((e - d) * 2) = omega (arith, B.high) in
      let b : 2 * m < suc q = sq_lt_back (2 * m) (suc q) (lt_of_mul-lt-mul_right (2 ^ ((e - d) * 2)) a) in
      inl (omega arith)

  -- where the smaller side is too small to count
  pub far_between : 27 ≤ e - d → 2 ^ 52 ≤ m → n < 2 ^ 53
      → (more : Bool) × Between (4 * (sq (m * 2 ^ e) + sq (n * 2 ^ d))) (sq (2 ^ e)) (2 * m) more
  far_between f l s =
      let a : sq (2 * n) < 2 ^ 54 * 2 ^ 54 = product_lt (2 * n) (2 * n) (2 ^ 54) (2 ^ 54) (omega arith) (omega arith) in
      let b : 2 ^ 54 ≤ 2 ^ ((e - d) * 2) = pow_mono (let g : 54 ≤ (e - d) * 2 = omega arith in g) in
      let h : 2 ^ 54 * 2 ^ 54 ≤ 4 * m * 2 ^ ((e - d) * 2) = mul-le-mul (let g : 2 ^ 54 ≤ 4 * m = omega arith in g) b in
      let i : sq (2 * n) < 4 * m * 2 ^ ((e - d) * 2) = lt_of_lt_of_le a h in
      let j : sq (2 * n) * sq (2 ^ d) < 4 * m * 2 ^ ((e - d) * 2) * sq (2 ^ d) = mul-lt-mul_of_pos_right i (mul-pos (pow_pos d) (pow_pos d)) in
      let k : 4 * m * (2 ^ ((e - d) * 2) * sq (2 ^ d)) ≡ 4 * m * sq (2 ^ e) = ap (λ (x : ℕ). 4 * m * x) apart in
      gap _ (sq (2 ^ e)) (2 * m) (omega arith) (omega arith)

-- ---- at the patterns

pub sums : (a m e b n d : ℕ) → PartsOf a m e → PartsOf b n d → sq (m * 2 ^ e) + sq (n * 2 ^ d) ≡ sq (amount a) + sq (amount b)
sums a m e b n d P Q = rw (amount_at a m e P, amount_at b n d Q)

pub far : (a m e b n d : ℕ) → PartsOf a m e → PartsOf b n d → b ≤ a → a < 2047 * 2 ^ 52 → 27 ≤ e - d → of_bits binary64 a ≡ root_units (sq (amount a) + sq (amount b))
far a m e b n d PA QB o h f =
    let P = parted_at a m e PA in
    let Q = parted_at b n d QB in
    let B = far_between m e n d (expo_mono P Q o) f (full P.held) Q.small in
    ap (λ (x : ℕ). of_bits binary64 x) (sym P.sum)
    ∙ to_lower _ e 1 e (2 * m) m B.0 (omega arith) B.1 (omega arith) (omega arith) P.held P.small (expo_le P h) (omega arith)
    ∙ ap root_units (sums a m e b n d PA QB)
  where
    full : Held m e → 2 ^ 52 ≤ m
    full (inl l) = l
    full (inr z) = absurd (omega arith)
