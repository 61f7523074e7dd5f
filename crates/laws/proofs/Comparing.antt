-- Whole numbers compared: what `compare` answers, forwards and backwards, and which of two numbers is below the other. Assumes nothing.
use mathlib.Core.Path.{◌≡◌, refl, subst}
use mathlib.Core.Bool.{Bool, true, false, not}
use mathlib.Core.Logic.{◌⊎◌, inl, inr}
use Prim.Native.Nat.{ℕ, ◌*◌, ◌^◌, ◌≤◌, ◌<◌, compare, Ordering}
use native.Mathlib.Nat.{mul-le-mul, lt_of_not-le, not-le_of_lt, lt_of_lt_of_le}
use native.Mathlib.Omega.{arith}
use lib.Dec.{T, leb, eqb, is_le, compare_is_eq, leb→le, nleb→lt, eqb→eq, eqb_refl}
use lib.Arith.{lt_of_le-ne}
use lib.Pow.{pow_mono}
use lib.Ieee.{size}
use lib.Ieee.Digits.{size-lt}

pub lt_or_le : (a b : ℕ) → (a < b) ⊎ (b ≤ a)
lt_or_le a b = go (leb b a) (leb→le b a) (nleb→lt b a)
  where
    go : (t : Bool) → (T t → b ≤ a) → (T (not t) → a < b) → (a < b) ⊎ (b ≤ a)
    go true y z = inr (y tt)
    go false y z = inl (z tt)

-- `compare` by its answer
abbrev pub Says : Ordering → ℕ → ℕ → Type 0
Says Ordering.lt a b = a < b
Says Ordering.eq a b = a ≡ b
Says Ordering.gt a b = b < a

pub says : (a b : ℕ) → Says (compare a b) a b
says a b = go (compare a b) (leb→le a b) (nleb→lt a b) (eqb→eq a b) (λ (e : a ≡ b). subst (λ (x : ℕ). T (eqb a x)) e (eqb_refl a))
  where
    go : (o : Ordering) → (T (is_le o) → a ≤ b) → (T (not (is_le o)) → b < a) → (T (compare_is_eq o) → a ≡ b) → (a ≡ b → T (compare_is_eq o)) → Says o a b
    go Ordering.lt h k e n = lt_of_le-ne (h tt) n
    go Ordering.eq h k e n = e tt
    go Ordering.gt h k e n = k tt

pub is_lt : (a b : ℕ) → compare a b ≡ Ordering.lt → a < b
is_lt a b c = subst (λ (o : Ordering). Says o a b) c (says a b)

pub is_eq : (a b : ℕ) → compare a b ≡ Ordering.eq → a ≡ b
is_eq a b c = subst (λ (o : Ordering). Says o a b) c (says a b)

pub is_gt : (a b : ℕ) → compare a b ≡ Ordering.gt → b < a
is_gt a b c = subst (λ (o : Ordering). Says o a b) c (says a b)

pub cmp_lt : (a b : ℕ) → a < b → compare a b ≡ Ordering.lt
cmp_lt a b h = go (compare a b) (nleb→lt a b) (eqb→eq a b)
  where
    go : (o : Ordering) → (T (not (is_le o)) → b < a) → (T (compare_is_eq o) → a ≡ b) → o ≡ Ordering.lt
    go Ordering.lt k e = refl
    go Ordering.eq k e = let z : a ≡ b = e tt in absurd (omega arith)
    go Ordering.gt k e = let z : b < a = k tt in absurd (omega arith)

pub cmp_eq : (a b : ℕ) → a ≡ b → compare a b ≡ Ordering.eq
cmp_eq a b h = go (compare a b) (leb→le a b) (nleb→lt a b) (subst (λ (x : ℕ). T (eqb a x)) h (eqb_refl a))
  where
    go : (o : Ordering) → (T (is_le o) → a ≤ b) → (T (not (is_le o)) → b < a) → T (compare_is_eq o) → o ≡ Ordering.eq
    go Ordering.lt k l e = absurd e
    go Ordering.eq k l e = refl
    go Ordering.gt k l e = absurd e

pub cmp_gt : (a b : ℕ) → b < a → compare a b ≡ Ordering.gt
cmp_gt a b h = go (compare a b) (leb→le a b)
  where
    go : (o : Ordering) → (T (is_le o) → a ≤ b) → o ≡ Ordering.gt
    go Ordering.lt k = let z : a ≤ b = k tt in absurd (omega arith)
    go Ordering.eq k = let z : a ≤ b = k tt in absurd (omega arith)
    go Ordering.gt k = refl

-- a product of two bounded numbers
pub product_lt : (a b c d : ℕ) → a < c → b < d → a * b < c * d
product_lt a b c d h k = omega (arith, mul-le-mul h k)

-- a number that reaches 2 ^ j has more than j digits
pub size_gt : (n j : ℕ) → 2 ^ j ≤ n → j < size n
size_gt n j h = lt_of_not-le (λ (g : size n ≤ j). not-le_of_lt (lt_of_lt_of_le (size-lt n) (pow_mono g)) h)
