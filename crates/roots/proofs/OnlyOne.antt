-- There is one nearest value, ties to even: two that are nearest are one. Assumes nothing.
use mathlib.Core.Path.{◌≡◌, refl, sym, ap, ◌∙◌, subst}
use mathlib.Core.Logic.{inl, inr}
use Prim.Native.Nat.{ℕ, suc, ◌+◌, ◌-◌, ◌*◌, ◌/◌, ◌%◌, ◌^◌, ◌≤◌, ◌<◌}
use native.Mathlib.Nat.{mul-le-mul_left, mul-lt-mul_of_pos_right, mul_assoc, le_antisymm, eq_of_mul-eq-mul_right, le_of_mul-le-mul_right, pow-succ'}
use native.Mathlib.Omega.{arith}
use lib.Dec.{lit<, lit≤}
use lib.Pow.{pow_pos, pow-add, pow_mono}
use Rattle.laws.proofs.Comparing.{lt_or_le}
use Rattle.laws.proofs.Patterns.{Held}
use Rattle.roots.specs.Root.{sq}
use Rattle.roots.specs.Nearest.{Counted, IsNearestEven}
use Rattle.roots.proofs.Squares.{sq_mono}
use Rattle.roots.proofs.Neighbours.{next, counted_at, split_pow}

-- an odd number of 2 ^ k is no even number of 2 ^ l, where both have all their digits
pub not_even : (q k p l : ℕ) → q % 2 ≡ 0 → Held q k → p % 2 ≡ 0 → p ≤ 2 ^ 53 → suc q * 2 ^ k ≡ p * 2 ^ l → ⊥
not_even q k p l a H b m e = elim (lt_or_le l k) [
  | inl i ↦
      let c : 2 * 2 ^ l ≤ 2 ^ k = subst (λ (x : ℕ). x ≤ 2 ^ k) (pow-succ' 2 l) (pow_mono i) in
      let d : suc q * (2 * 2 ^ l) ≤ suc q * 2 ^ k = mul-le-mul_left (suc q) c in
      let u : suc q * 2 ≤ p = le_of_mul-le-mul_right (let z : suc q * 2 * 2 ^ l ≤ p * 2 ^ l = omega arith in z) (pow_pos l) in
      elim H [ inl w ↦ omega arith | inr z ↦ omega arith ]
  | inr g ↦
      let f : p * 2 ^ l ≡ p * 2 ^ (l - k) * 2 ^ k = ap (λ (x : ℕ). p * x) (split_pow l k g) ∙ sym (mul_assoc p (2 ^ (l - k)) (2 ^ k)) in
      let u : suc q ≡ p * 2 ^ (l - k) = eq_of_mul-eq-mul_right (2 ^ k) (pow_pos k) _ _ (e ∙ f) in
      let v : p ≡ 2 * (p / 2) = omega arith in
      let x : suc q ≡ 2 * (p / 2) * 2 ^ (l - k) = subst (λ (y : ℕ). suc q ≡ y * 2 ^ (l - k)) v u in
      odd_not_even q (p / 2 * 2 ^ (l - k)) a (omega arith)
]
  where
    odd_not_even : (q t : ℕ) → q % 2 ≡ 0 → suc q ≡ 2 * t → ⊥
    odd_not_even q t a e = omega arith

-- an even q below the last, with what `IsNearestEven` says of a value r that is q * 2 ^ k, is not below another nearest even value
not_below : (n r q k p l : ℕ) → r ≡ q * 2 ^ k → Held q k → q < 2 ^ 53 → q % 2 ≡ 0 → ((y : ℕ) → Counted y → r < y → 4 * n ≤ sq (y + r)) → IsNearestEven n p l → p % 2 ≡ 0 → r < p * 2 ^ l → sq (r + p * 2 ^ l) ≡ 4 * n → ⊥
not_below n r q k p l e H Q a A P b h t =
    let s = p * 2 ^ l in
    let y = suc q * 2 ^ k in
    let up : y ≤ s = next q k s H (counted_at p l P.most) (subst (λ (x : ℕ). x < s) e h) in
    let more : r < y = let z : q * 2 ^ k < suc q * 2 ^ k = mul-lt-mul_of_pos_right (let w : q < suc q = omega arith in w) (pow_pos k) in subst (λ (x : ℕ). x < y) (sym e) z in
    elim (lt_or_le y s) [
      | inl g ↦
          let c : 4 * n ≤ sq (y + r) = A y (counted_at (suc q) k Q) more in
          let d : sq (suc (y + r)) ≤ sq (r + s) = sq_mono (let w : suc (y + r) ≤ r + s = omega arith in w) in
          let f : sq (y + r) < sq (suc (y + r)) = omega arith in
          omega arith
      | inr g ↦ not_even q k p l a H b P.most (le_antisymm up g)
    ]

pub only_even : (n q k p l : ℕ) → IsNearestEven n q k → IsNearestEven n p l → q * 2 ^ k ≡ p * 2 ^ l
only_even n q k p l R P = le_antisymm (no_more p l q k P R) (no_more q k p l R P)
  where
    no_more : (q k p l : ℕ) → IsNearestEven n q k → IsNearestEven n p l → p * 2 ^ l ≤ q * 2 ^ k
    no_more q k p l R P = elim (lt_or_le (q * 2 ^ k) (p * 2 ^ l)) [
      | inl h ↦
          let r = q * 2 ^ k in
          let s = p * 2 ^ l in
          let a : sq (r + s) ≤ 4 * n = P.below r (counted_at q k R.most) h in
          let b : 4 * n ≤ sq (s + r) = R.above s (counted_at p l P.most) h in
          let t : sq (r + s) ≡ 4 * n = omega arith in
          let t' : sq (s + r) ≡ 4 * n = omega arith in
          let eq : q % 2 ≡ 0 = R.even s (counted_at p l P.most) (λ (z : s ≡ r). omega arith) t' in
          let ep : p % 2 ≡ 0 = P.even r (counted_at q k R.most) (λ (z : r ≡ s). omega arith) t in
          absurd (elim (lt_or_le q (2 ^ 53)) [
            | inl g ↦ not_below n r q k p l refl R.full g eq R.above P ep h t
            | inr g ↦
                let z : q ≡ 2 ^ 52 * 2 ^ 1 = omega arith in
                let e : r ≡ 2 ^ 52 * 2 ^ (1 + k) = ap (λ (x : ℕ). x * 2 ^ k) z ∙ mul_assoc (2 ^ 52) (2 ^ 1) (2 ^ k) ∙ ap (λ (x : ℕ). 2 ^ 52 * x) (sym (pow-add 2 1 k)) in
                not_below n r (2 ^ 52) (1 + k) p l e (inl (lit≤ tt)) (lit< tt) refl R.above P ep h t
          ])
      | inr g ↦ g
    ]
