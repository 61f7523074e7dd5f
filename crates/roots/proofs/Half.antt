-- The root of m * 2 ^ (s + 52): half the exponent, and the significand once or twice. Assumes nothing.
use mathlib.Core.Path.{◌≡◌, refl, sym, ap, ◌∙◌, subst}
use Prim.Native.Nat.{ℕ, zero, suc, ◌+◌, ◌-◌, ◌*◌, ◌/◌, ◌%◌, ◌^◌, ◌≤◌, ◌<◌}
use native.Mathlib.Nat.{mul-le-mul_left, mul-lt-mul_of_pos_right, mul-pos, add-zero}
use native.Mathlib.Omega.{arith}
use lib.Pow.{pow-add, pow_pos}
use lib.Dec.{ltb}
use lib.Ieee.{binary64, of_bits}
use Rattle.roots.specs.Root.{sq, root_units}
use Rattle.roots.specs.Inner.{RootPair, Between}
use Rattle.roots.proofs.Limbs.{between}
use Rattle.roots.proofs.Rounding.{around}

-- an exponent by its half and what is left
small_pow : (p : ℕ) → p < 2 → p + 1 ≡ 2 ^ p
small_pow zero h = refl
small_pow (suc zero) h = refl
small_pow (suc (suc p)) h = absurd (omega arith)

pub halved : (m s : ℕ) → m * (s % 2 + 1) * 2 ^ 52 * sq (2 ^ (s / 2)) ≡ m * 2 ^ (s + 52)
halved m s =
    let e : s + 52 ≡ s % 2 + (52 + (s / 2 + s / 2)) = omega arith in
    let g : 2 ^ (s + 52) ≡ (s % 2 + 1) * (2 ^ 52 * sq (2 ^ (s / 2))) =
    ap (λ (x : ℕ). 2 ^ x) e
    ∙ pow-add 2 (s % 2) (52 + (s / 2 + s / 2))
    ∙ ap (λ (x : ℕ). x * 2 ^ (52 + (s / 2 + s / 2))) (sym (small_pow (s % 2) (omega arith)))
    ∙ ap (λ (x : ℕ). (s % 2 + 1) * x) (pow-add 2 52 (s / 2 + s / 2) ∙ ap (λ (x : ℕ). 2 ^ 52 * x) (pow-add 2 (s / 2) (s / 2))) in
    rw g (omega arith)

pub one_or_two : (m s : ℕ) → (m ≤ m * (s % 2 + 1)) × (m * (s % 2 + 1) ≤ m * 2)
one_or_two m s =
    let a : 1 ≤ s % 2 + 1 = omega arith in
    let b : s % 2 + 1 ≤ 2 = omega arith in
    (omega (arith, mul-le-mul_left m a), mul-le-mul_left m b)

module _ (m s q r : ℕ) (P : RootPair (m * (s % 2 + 1) * 2 ^ 54 + 0) q r) (lo : 2 ^ 52 ≤ m) (hi : m < 2 ^ 53) where
  pub half_between : Between (4 * (m * 2 ^ (s + 52))) (sq (2 ^ (s / 2))) q (ltb 0 r)
  half_between =
      let p = sq (2 ^ (s / 2)) in
      let e : (sq q + r) * p ≡ (m * (s % 2 + 1) * 2 ^ 54 + 0) * p = ap (λ (x : ℕ). x * p) P.sum in
      subst (λ (x : ℕ). Between (4 * (m * 2 ^ (s + 52))) p q (ltb 0 x)) (add-zero r)
      (between (4 * (m * 2 ^ (s + 52))) p q r 0 (omega (arith, halved m s)) P.small (mul-pos (pow_pos (s / 2)) (pow_pos (s / 2))))

-- a float near the root, with the square of twice its digits near enough
pub half_around : (m s f : ℕ) → 0 < f → f < 2 ^ 52 → s ≤ 4000
    → sq (2 * f + 2 ^ 53) < m * (s % 2 + 1) * 2 ^ 54 + 0 + (2 * (2 * f + 2 ^ 53) - 1)
    → m * (s % 2 + 1) * 2 ^ 54 + 0 < sq (2 * f + 2 ^ 53) + (2 * (2 * f + 2 ^ 53) - 1)
    → of_bits binary64 ((s / 2 + 1) * 2 ^ 52 + f) ≡ root_units (m * 2 ^ (s + 52))
half_around m s f F S E a b =
    let p = sq (2 ^ (s / 2)) in
    let pos : 0 < p = mul-pos (pow_pos (s / 2)) (pow_pos (s / 2)) in
    let v = f + 4503599627370495 in
    let t = m * (s % 2 + 1) * 2 ^ 54 in
    let four : t * p ≡ 4 * (m * 2 ^ (s + 52)) = omega (arith, halved m s) in
    let low : sq ((2 * v + 1) * 1) < t = omega arith in
    let high : t < sq ((2 * suc v + 1) * 1) = omega arith in
    ap (λ (x : ℕ). of_bits binary64 x) (let e : (s / 2 + 1) * 2 ^ 52 + f ≡ s / 2 * 2 ^ 52 + suc v = omega arith in e)
    ∙ around (m * 2 ^ (s + 52)) (s / 2) 1 (s / 2) v (omega arith)
    (subst (λ (x : ℕ). sq ((2 * v + 1) * 1) * p < x) four (mul-lt-mul_of_pos_right low pos))
    (subst (λ (x : ℕ). x < sq ((2 * suc v + 1) * 1) * p) four (mul-lt-mul_of_pos_right high pos))
    (omega arith) (omega arith) (omega arith)
