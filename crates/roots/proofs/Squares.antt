-- Whole roots: squares keep the order, a whole root is one number, and `isqrt` is it. Assumes nothing.
use mathlib.Core.Path.{◌≡◌, ap, ◌∙◌}
use mathlib.Core.Bool.{Bool, true, false, cond}
use Prim.Native.Nat.{ℕ, zero, suc, ◌*◌, ◌/◌, ◌^◌, ◌≤◌, ◌<◌}
use native.Mathlib.Nat.{mul-le-mul, mul-le-mul_left, le_antisymm, le_of_suc-le-suc, lt_of_not-le, not-le_of_lt}
use native.Mathlib.Omega.{arith}
use lib.Dec.{T, leb, leb→le, nleb→lt}
use lib.Pow.{pow_pos, pow-add}
use lib.Ieee.{size}
use lib.Ieee.Digits.{size-lt}
use Rattle.roots.specs.Root.{sq, floor_root, isqrt}
use Rattle.roots.specs.Nearest.{IsFloorRoot}

pub sq_mono : {a b : ℕ} → a ≤ b → sq a ≤ sq b
sq_mono h = mul-le-mul h h

pub sq_lt_back : (a b : ℕ) → sq a < sq b → a < b
sq_lt_back a b h = lt_of_not-le (λ (g : b ≤ a). not-le_of_lt h (sq_mono g))

pub one_root : {n p q : ℕ} → IsFloorRoot n p → IsFloorRoot n q → p ≡ q
one_root {n} {p} {q} P Q = le_antisymm (below p q P.low Q.high) (below q p Q.low P.high)
  where
    below : (a b : ℕ) → sq a ≤ n → n < sq (suc b) → a ≤ b
    below a b l h = le_of_suc-le-suc (sq_lt_back a (suc b) (omega arith))

-- one more digit
abbrev grown : ℕ → ℕ → ℕ
grown r n = cond (leb (sq (suc r)) n) (suc r) r

grow : (n q : ℕ) → IsFloorRoot (n / 4) q → IsFloorRoot n (grown (2 * q) n)
grow n q Q = go (leb (sq (suc (2 * q))) n) (leb→le (sq (suc (2 * q))) n) (nleb→lt (sq (suc (2 * q))) n)
  where
    go : (t : Bool) → (T t → sq (suc (2 * q)) ≤ n) → (T (mathlib.Core.Bool.not t) → n < sq (suc (2 * q))) → IsFloorRoot n (cond t (suc (2 * q)) (2 * q))
    go true y z = record { low = y tt; high = omega (arith, Q.high) }
    go false y z = record { low = omega (arith, Q.low); high = z tt }

floor_is : (d n : ℕ) → n < 2 ^ (d * 2) → IsFloorRoot n (floor_root d n)
unfolding floor_root
floor_is zero n h = record { low = omega arith; high = omega arith }
floor_is (suc d) n h =
    let e : 2 ^ (suc d * 2) ≡ 4 * 2 ^ (d * 2) = ap (λ (x : ℕ). 2 ^ x) (omega arith) ∙ pow-add 2 2 (d * 2) in
    grow n (floor_root d (n / 4)) (floor_is d (n / 4) (omega arith))

pub isqrt_is : (n : ℕ) → IsFloorRoot n (isqrt n)
unfolding isqrt
isqrt_is n =
    let e : 2 ^ (size n * 2) ≡ 2 ^ size n * 2 ^ size n = ap (λ (x : ℕ). 2 ^ x) (omega arith) ∙ pow-add 2 (size n) (size n) in
    floor_is (size n) n (omega (arith, size-lt n, mul-le-mul_left (2 ^ size n) (pow_pos (size n))))

pub isqrt_of : {n q : ℕ} → IsFloorRoot n q → isqrt n ≡ q
isqrt_of {n} Q = one_root (isqrt_is n) Q
