-- The square root of every positive finite f64, and the length of every two finite ones, is THE nearest f64, ties to even: nothing else is nearest.
-- A length that rounds past the largest finite number is +infinity, and no other is. A square root is never a tie.
use mathlib.Core.Path.{◌≡◌, refl, sym, ap, ◌∙◌, subst}
use mathlib.Core.Bool.{Bool, true, false, cond}
use mathlib.Core.Logic.{inl, inr}
use Prim.Native.Nat.{ℕ, suc, ◌+◌, ◌*◌, ◌%◌, ◌^◌, ◌≤◌, ◌<◌}
use native.Mathlib.Nat.{not-le_of_lt}
use native.Mathlib.Omega.{arith}
use borrow.Author.Tests.{le-ltb}
use lib.Dec.{T, ltb, ltb→lt, leb, lit≤}
use lib.Pow.{pow_pos}
use lib.Ieee.{Float, nan, inf, fin, binary64, odd, units, fits, to_bits}
use lib.Ieee.Exact.{HasValue, units_val}
use lib.Ieee.Fits.{odd-fits, inf-fits}
use lib.Ieee.Positive.{first_pos}
use Rattle.laws.specs.Floats.{finite, positive}
use Rattle.laws.proofs.Choices.{false_true, both}
use Rattle.laws.proofs.Comparing.{lt_or_le}
use Rattle.laws.proofs.Patterns.{amount, mant_of, expo_of, parted, expo_le}
use Rattle.laws.proofs.Values.{units_of_lem, same_value, finite_pattern, finite_value, value_finite, above_zero}
use Rattle.roots.specs.Root.{sq, root_units, root_mag, root_of}
use Rattle.roots.specs.Hypot.{hypot_of}
use Rattle.roots.specs.Nearest.{units_of, Counted, IsNearestEven, IsNearest, IsNearestAlone}
use Rattle.roots.proofs.Squares.{sq_mono}
use Rattle.roots.proofs.AtPatterns.{root_val, mag_pos}
use Rattle.roots.proofs.Neighbours.{next, counted_at}
use Rattle.roots.proofs.OnlyOne.{not_even, only_even}
use Rattle.roots.proofs.RootUnits.{At, units_even, root_units_alone}

-- ---- the magnitude of a finite f64 is exactly `units_of`, and is one of the values that the nearest one is compared with

units_value : (x : Float) (s : Bool) (n : ℕ) → HasValue x s n (2 ^ 1074) → units_of x ≡ n
units_value nan s n h = absurd h
units_value (inf t) s n h = absurd h
units_value (fin t m e) s n h = units_of_lem m e n h.1

pub units_exact : (x : Float) → T (fits binary64 x) → finite x ≡ true → HasValue x (leb (2 ^ 63) (to_bits binary64 x)) (units_of x) (2 ^ 1074)
units_exact x f h =
    let v = finite_value x f h in
    subst (λ (n : ℕ). HasValue x (leb (2 ^ 63) (to_bits binary64 x)) n (2 ^ 1074)) (sym (units_value x _ _ v)) v

amount_counted : (b : ℕ) → Counted (amount b)
unfolding amount
amount_counted b = (mant_of b, expo_of b, (parted b).small, refl)

pub each_counted : (x : Float) → T (fits binary64 x) → finite x ≡ true → Counted (units_of x)
each_counted x f h = subst Counted (sym (units_value x _ _ (finite_value x f h))) (amount_counted (to_bits binary64 x % 2 ^ 63))

-- ---- at every n

units_over : (q k : ℕ) → 2 ^ 2098 ≤ q * 2 ^ k → units binary64 false q k ≡ inf false
unfolding units
units_over q k h = rw (le-ltb (q * 2 ^ k) (2 ^ 2098) h)

pub root_units_nearest : (n : ℕ) → IsNearest n (root_units n)
root_units_nearest n =
    let (q, k, e, E) = units_even n in
    (q, k, E, (λ l. subst (λ (v : Float). HasValue v false (q * 2 ^ k) (2 ^ 1074)) (sym e) (units_val binary64 false q k l)), λ g. e ∙ units_over q k g)

-- no second f64 is nearest, also at a tie, also past the largest
pub only_nearest : (n : ℕ) (v w : Float) → T (fits binary64 v) → T (fits binary64 w) → IsNearest n v → IsNearest n w → v ≡ w
only_nearest n v w f g (q, k, E, L, G) (p, l, F, M, H) =
    let e : q * 2 ^ k ≡ p * 2 ^ l = only_even n q k p l E F in
    elim (lt_or_le (q * 2 ^ k) (2 ^ 2098)) [
      | inl a ↦
          same_value v w false (q * 2 ^ k) f g (L a)
          (subst (λ (x : ℕ). HasValue w false x (2 ^ 1074)) (sym e) (M (subst (λ (x : ℕ). x < 2 ^ 2098) e a)))
      | inr a ↦ G a ∙ sym (H (subst (λ (x : ℕ). 2 ^ 2098 ≤ x) e a))
    ]

units_fits : (q k : ℕ) → q ≤ 2 ^ 53 → T (fits binary64 (units binary64 false q k))
unfolding units
units_fits q k h = by (ltb (q * 2 ^ k) (2 ^ 2098)) (ltb→lt (q * 2 ^ k) (2 ^ 2098))
  where
    by : (b : Bool) → (T b → q * 2 ^ k < 2 ^ 2098) → T (fits binary64 (cond b (odd 54 false q k 1074) (inf false)))
    by true l = odd-fits binary64 54 false q k (omega arith) h (l tt)
    by false l = inf-fits binary64 false

pub root_units_fits : (n : ℕ) → T (fits binary64 (root_units n))
root_units_fits n =
    let (q, k, e, E) = units_even n in
    subst (λ (v : Float). T (fits binary64 v)) (sym e) (units_fits q k E.most)

-- ---- the square root

root_of_positive : (x : Float) → T (fits binary64 x) → positive x ≡ true → root_of x ≡ root_units (units_of x * 2 ^ 1074)
root_of_positive x f h =
    let a = both _ _ h in
    let v = finite_value x f a.0 in
    let b = above_zero x _ _ a.1 v in
    root_val x _ _ v
    ∙ ap (λ (s : Bool). root_mag s (amount (to_bits binary64 x % 2 ^ 63))) b.0
    ∙ mag_pos _ b.1
    ∙ ap (λ (n : ℕ). root_units (n * 2 ^ 1074)) (sym (units_value x _ _ v))

-- √(n / 2 ^ 1074) is √(n * 2 ^ 1074) units
pub root_nearest : (x : Float) → T (fits binary64 x) → positive x ≡ true → IsNearest (units_of x * 2 ^ 1074) (root_of x)
root_nearest x f h = subst (λ (v : Float). IsNearest (units_of x * 2 ^ 1074) v) (sym (root_of_positive x f h)) (root_units_nearest (units_of x * 2 ^ 1074))

pub root_only : (x v : Float) → T (fits binary64 x) → positive x ≡ true → T (fits binary64 v) → IsNearest (units_of x * 2 ^ 1074) v → v ≡ root_of x
root_only x v f h g N =
    let n = units_of x * 2 ^ 1074 in
    only_nearest n v (root_units n) g (root_units_fits n) N (root_units_nearest n) ∙ sym (root_of_positive x f h)

alone_at : (x : Float) (b : ℕ) → b < 2047 * 2 ^ 52 → HasValue x false (amount b) (2 ^ 1074) → 0 < amount b → At (amount b * 2 ^ 1074) (root_of x)
unfolding amount
alone_at x b t v p = root_units_alone x (mant_of b) (expo_of b) (first_pos (mant_of b) (2 ^ expo_of b) p) (parted b).small (expo_le (parted b) t) v

-- a root is finite and never a tie
pub root_alone : (x : Float) → T (fits binary64 x) → positive x ≡ true → (r : ℕ) × HasValue (root_of x) false r (2 ^ 1074) × IsNearestAlone (units_of x * 2 ^ 1074) r
root_alone x f h =
    let a = both _ _ h in
    let b = to_bits binary64 x % 2 ^ 63 in
    let v = finite_value x f a.0 in
    let z = above_zero x _ _ a.1 v in
    subst (λ (n : ℕ). At (n * 2 ^ 1074) (root_of x)) (sym (units_value x _ _ v))
    (alone_at x b (finite_pattern x f a.0) (subst (λ (s : Bool). HasValue x s (amount b) (2 ^ 1074)) z.0 v) z.1)

-- ---- the length

hypot_of_finite : (x y : Float) → finite x ≡ true → finite y ≡ true → hypot_of x y ≡ root_units (sq (units_of x) + sq (units_of y))
unfolding hypot_of finite
hypot_of_finite nan y h k = false_true h
hypot_of_finite (inf s) y h k = false_true h
hypot_of_finite (fin s m e) nan h k = false_true k
hypot_of_finite (fin s m e) (inf t) h k = false_true k
hypot_of_finite (fin s m e) (fin t n d) h k = refl

pub hypot_nearest : (x y : Float) → finite x ≡ true → finite y ≡ true → IsNearest (sq (units_of x) + sq (units_of y)) (hypot_of x y)
hypot_nearest x y h k =
    subst (λ (v : Float). IsNearest (sq (units_of x) + sq (units_of y)) v) (sym (hypot_of_finite x y h k)) (root_units_nearest (sq (units_of x) + sq (units_of y)))

pub hypot_only : (x y v : Float) → finite x ≡ true → finite y ≡ true → T (fits binary64 v) → IsNearest (sq (units_of x) + sq (units_of y)) v → v ≡ hypot_of x y
hypot_only x y v h k g N =
    let n = sq (units_of x) + sq (units_of y) in
    only_nearest n v (root_units n) g (root_units_fits n) N (root_units_nearest n) ∙ sym (hypot_of_finite x y h k)

-- ---- past the largest finite number: from the middle of (2 ^ 53 - 1) * 2 ^ 2045 and 2 ^ 53 * 2 ^ 2045 units on

-- twice that middle, at any exponent
abbrev pub top_middle : ℕ → ℕ
top_middle K = 18014398509481983 * 2 ^ K

module _ (n q k K : ℕ) (E : IsNearestEven n q k) where
  not_under : sq (top_middle K) ≤ 4 * n → q * 2 ^ k < 9007199254740992 * 2 ^ K → ⊥
  not_under h l =
      let r = q * 2 ^ k in
      let z = 9007199254740992 * 2 ^ K in
      let cr = counted_at q k E.most in
      let cz = counted_at 9007199254740992 K (lit≤ tt) in
      let a : r ≤ 9007199254740991 * 2 ^ K = elim (lt_or_le (9007199254740991 * 2 ^ K) r) [
        | inl g ↦ absurd (not-le_of_lt l (next 9007199254740991 K r (inl (lit≤ tt)) cr g))
        | inr g ↦ g
      ] in
      let b : 4 * n ≤ sq (z + r) = E.above z cz l in
      let d : top_middle K ≤ z + r = elim (lt_or_le (z + r) (top_middle K)) [
        | inl g ↦
            let s : sq (suc (z + r)) ≤ sq (top_middle K) = sq_mono g in
            let t : sq (z + r) < sq (suc (z + r)) = omega arith in
            absurd (omega arith)
        | inr g ↦ g
      ] in
      let e : z + r ≡ top_middle K = omega arith in
      let f : sq (z + r) ≤ 4 * n = subst (λ (x : ℕ). sq x ≤ 4 * n) (sym e) h in
      let v : q % 2 ≡ 0 = E.even z cz (λ (w : z ≡ r). omega arith) (omega arith) in
      not_even 9007199254740990 K q k refl (inl (lit≤ tt)) v E.most (omega arith)

  not_over : 4 * n < sq (top_middle K) → 9007199254740992 * 2 ^ K ≤ q * 2 ^ k → ⊥
  not_over h g =
      let r = q * 2 ^ k in
      let y = 9007199254740991 * 2 ^ K in
      let l : y < r = omega (arith, pow_pos K) in
      let a : sq (y + r) ≤ 4 * n = E.below y (counted_at 9007199254740991 K (lit≤ tt)) l in
      let s : sq (top_middle K) ≤ sq (y + r) = sq_mono (let m : top_middle K ≤ y + r = omega arith in m) in
      omega arith

pub hypot_past_largest : (x y : Float) → finite x ≡ true → finite y ≡ true → sq (top_middle 2045) ≤ 4 * (sq (units_of x) + sq (units_of y)) → hypot_of x y ≡ inf false
hypot_past_largest x y h k t =
    let (q, j, E, L, G) = hypot_nearest x y h k in
    elim (lt_or_le (q * 2 ^ j) (2 ^ 2098)) [ inl l ↦ absurd (not_under _ q j 2045 E t l) | inr g ↦ G g ]

pub hypot_finite : (x y : Float) → finite x ≡ true → finite y ≡ true → 4 * (sq (units_of x) + sq (units_of y)) < sq (top_middle 2045) → finite (hypot_of x y) ≡ true
hypot_finite x y h k t =
    let (q, j, E, L, G) = hypot_nearest x y h k in
    elim (lt_or_le (q * 2 ^ j) (2 ^ 2098)) [ inl l ↦ value_finite (hypot_of x y) false _ (L l) | inr g ↦ absurd (not_over _ q j 2045 E t g) ]
