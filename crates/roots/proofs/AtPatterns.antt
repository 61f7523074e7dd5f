-- What the root and the length are at a float, by its bit pattern or by its value. Assumes nothing.
use mathlib.Core.Path.{◌≡◌, refl, sym, ap, ◌∙◌, subst}
use mathlib.Core.Bool.{Bool, true, false, cond}
use mathlib.Core.Logic.{◌⊎◌, inl, inr}
use Prim.Native.Nat.{ℕ, zero, suc, ◌+◌, ◌*◌, ◌/◌, ◌%◌, ◌^◌, ◌≤◌, ◌<◌, max, min}
use native.Mathlib.Nat.{mul-pos, div-add-mod', mod-eq_of_lt, mul_assoc, add_comm, le_of_lt, max-eq_left, max-eq_right, min-eq_left, min-eq_right}
use native.Mathlib.Omega.{arith}
use borrow.Author.Tests.{le-leb, lt-leb}
use lib.Dec.{T, leb, eqb}
use lib.Pow.{pow_pos, pow-add}
use lib.Ieee.{Float, nan, inf, fin, binary64, odd, of_fields, of_bits, to_bits, fits}
use lib.Ieee.Exact.{HasValue, odd_sign}
use Rattle.laws.proofs.Patterns.{of_fields_lem, amount, PartsOf, parted_at, amount_at, mant_pos}
use Rattle.laws.proofs.Comparing.{lt_or_le}
use Rattle.laws.specs.Floats.{one}
use Rattle.laws.proofs.Values.{value, units_of_lem, bits_val}
use Rattle.roots.specs.Root.{sq, mag, root_units, root_mag, root_of}
use Rattle.roots.specs.Hypot.{hypot_of}

-- ---- the root by the value

pub root_val : (v : Float) (s : Bool) (n : ℕ) → HasValue v s n (2 ^ 1074) → root_of v ≡ root_mag s n
unfolding root_of
root_val nan s n h = absurd h
root_val (inf t) s n h = absurd h
root_val (fin t m e) s n h =
    let a : mag m e ≡ n = units_of_lem m e n h.1 in
    rw (h.0, a)

pub mag_pos : (n : ℕ) → 0 < n → root_mag false n ≡ root_units (n * 2 ^ 1074)
unfolding root_mag
mag_pos zero h = absurd (omega arith)
mag_pos (suc n) h = refl

pub mag_neg : (n : ℕ) → 0 < n → root_mag true n ≡ nan
unfolding root_mag
mag_neg zero h = absurd (omega arith)
mag_neg (suc n) h = refl

root_neg : (q k : ℕ) → 0 < q → root_of (odd 53 true q k 1074) ≡ nan
root_neg q k h = root_val (odd 53 true q k 1074) true (q * 2 ^ k) (odd_sign 53 true q k 1074) ∙ mag_neg (q * 2 ^ k) (mul-pos h (pow_pos k))

-- ---- the root by the pattern

pub root_nan : root_of nan ≡ nan
unfolding root_of
root_nan = refl

root_inf : (t : Bool) → root_of (cond t (inf false) nan) ≡ cond t (inf false) nan
unfolding root_of
root_inf true = refl
root_inf false = refl

root_minus_inf : (t : Bool) → root_of (cond t (inf true) nan) ≡ nan
unfolding root_of
root_minus_inf true = refl
root_minus_inf false = refl

plus_zero : of_bits binary64 0 ≡ root_of (of_bits binary64 0)
unfolding of_bits root_of
plus_zero = refl

minus_zero : of_bits binary64 (2 ^ 63) ≡ root_of (of_bits binary64 (2 ^ 63))
unfolding of_bits root_of
minus_zero = refl

pub at_zero : (b : ℕ) → b < 2 ^ 64 → b % 2 ^ 63 ≡ 0 → of_bits binary64 b ≡ root_of (of_bits binary64 b)
at_zero b h e = elim (which (b / 2 ^ 63) refl) [ inl z ↦ rw z plus_zero | inr z ↦ rw z minus_zero ]
  where
    which : (k : ℕ) → b / 2 ^ 63 ≡ k → (b ≡ 0) ⊎ (b ≡ 2 ^ 63)
    which zero g = inl (omega arith)
    which (suc zero) g = inr (omega arith)
    which (suc (suc k)) g = absurd (omega arith)

fields_neg : (x t : ℕ) → 0 < x * 2 ^ 52 + t → root_of (of_fields binary64 true x t) ≡ nan
unfolding of_fields
fields_neg zero t h = root_neg t 0 (omega arith)
fields_neg (suc x) t h = go (eqb (suc x) 2047)
  where
    go : (a : Bool) → root_of (cond a (cond (eqb t 0) (inf true) nan) (odd 53 true (2 ^ 52 + t) x 1074)) ≡ nan
    go true = root_minus_inf (eqb t 0)
    go false = root_neg (2 ^ 52 + t) x (omega arith)

pub at_negative : (b : ℕ) → 2 ^ 63 ≤ b → b < 2 ^ 64 → (b % 2 ^ 63 ≡ 0 → ⊥) → root_of (of_bits binary64 b) ≡ nan
unfolding of_bits
at_negative b l h n =
    let s : leb (2 ^ 63) b ≡ true = le-leb (2 ^ 63) b l in
    let c : b % 2 ^ 63 / 2 ^ 52 * 2 ^ 52 + b % 2 ^ 52 ≡ b % 2 ^ 63 = omega arith in
    rw s (fields_neg (b % 2 ^ 63 / 2 ^ 52) (b % 2 ^ 52) (omega arith))

-- the pattern by its fields
whole : (b : ℕ) → b / 2 ^ 52 * 2 ^ 52 + b % 2 ^ 52 ≡ b
whole b = div-add-mod' b (2 ^ 52)

split : (b : ℕ) → b < 2 ^ 63 → of_bits binary64 b ≡ of_fields binary64 false (b / 2 ^ 52) (b % 2 ^ 52)
split b h = ap (λ (x : ℕ). of_bits binary64 x) (sym (whole b)) ∙ of_fields_lem (b / 2 ^ 52) (b % 2 ^ 52) (omega arith) (omega arith)

fields_inf : (t : ℕ) → root_of (of_fields binary64 false 2047 t) ≡ of_fields binary64 false 2047 t
unfolding of_fields
fields_inf t = root_inf (eqb t 0)

pub at_infinity : (b : ℕ) → b < 2 ^ 63 → 2047 * 2 ^ 52 ≤ b → root_of (of_bits binary64 b) ≡ of_bits binary64 b
at_infinity b h l =
    let e : b / 2 ^ 52 ≡ 2047 = omega arith in
    let s = rw e at (split b h) in
    rw s (fields_inf (b % 2 ^ 52))

-- the root at a positive pattern whose significand m and exponent e are known, shifted up by `by`
pub root_at : (x : Float) → T (fits binary64 x) → to_bits binary64 x < 2047 * 2 ^ 52 → 0 < to_bits binary64 x
    → (m e w by s : ℕ) → PartsOf (to_bits binary64 x) m e → w ≡ m * 2 ^ by → s + by ≡ e + 1022 → root_units (w * 2 ^ (s + 52)) ≡ root_of x
root_at x f h p m e w by s P W S =
    let b = to_bits binary64 x in
    let low : b % 2 ^ 63 ≡ b = mod-eq_of_lt (omega arith) in
    let sign : leb (2 ^ 63) b ≡ false = lt-leb (2 ^ 63) b (omega arith) in
    let v : HasValue x false (amount b) (2 ^ 1074) =
    subst (λ (t : Bool). HasValue x t (amount b) (2 ^ 1074)) sign
    (subst (λ (c : ℕ). HasValue x (leb (2 ^ 63) b) (amount c) (2 ^ 1074)) low (value x f (omega arith))) in
    let a : m * 2 ^ e ≡ amount b = amount_at b m e P in
    let some : 0 < m = mant_pos (parted_at b m e P) p in
    let q : by + (s + 52) ≡ e + 1074 = omega arith in
    let g : w * 2 ^ (s + 52) ≡ m * 2 ^ e * 2 ^ 1074 =
    ap (λ (y : ℕ). y * 2 ^ (s + 52)) W
    ∙ mul_assoc m (2 ^ by) (2 ^ (s + 52))
    ∙ ap (λ (y : ℕ). m * y) (sym (pow-add 2 by (s + 52)) ∙ ap (λ (y : ℕ). 2 ^ y) q ∙ pow-add 2 e 1074)
    ∙ sym (mul_assoc m (2 ^ e) (2 ^ 1074)) in
    ap root_units (g ∙ ap (λ (y : ℕ). y * 2 ^ 1074) a) ∙ sym (root_val x false (amount b) v ∙ mag_pos (amount b) (subst (λ (y : ℕ). 0 < y) a (mul-pos some (pow_pos e))))

-- ---- the length

pub inf_left : (s : Bool) (y : Float) → hypot_of (inf s) y ≡ inf false
unfolding hypot_of
inf_left s y = refl

pub inf_right : (x : Float) (s : Bool) → hypot_of x (inf s) ≡ inf false
unfolding hypot_of
inf_right nan s = refl
inf_right (inf t) s = refl
inf_right (fin t m e) s = refl

pub nan_nan : hypot_of nan nan ≡ nan
unfolding hypot_of
nan_nan = refl

pub nan_value : (x : Float) (s : Bool) (n : ℕ) → HasValue x s n (2 ^ 1074) → hypot_of nan x ≡ nan
unfolding hypot_of
nan_value nan s n h = absurd h
nan_value (inf t) s n h = absurd h
nan_value (fin t m e) s n h = refl

pub nan_right : (x : Float) → hypot_of x nan ≡ hypot_of nan x
unfolding hypot_of
nan_right nan = refl
nan_right (inf s) = refl
nan_right (fin s m e) = refl

pub both : (x y : Float) (s t : Bool) (n m : ℕ) → HasValue x s n (2 ^ 1074) → HasValue y t m (2 ^ 1074) → hypot_of x y ≡ root_units (sq n + sq m)
unfolding hypot_of
both (fin a u e) (fin b v d) s t n m h k = ap (λ (z : ℕ). root_units (sq z + sq (mag v d))) (units_of_lem u e n h.1) ∙ ap (λ (z : ℕ). root_units (sq n + sq z)) (units_of_lem v d m k.1)
both nan y s t n m h k = absurd h
both (inf a) y s t n m h k = absurd h
both (fin a u e) nan s t n m h k = absurd k
both (fin a u e) (inf b) s t n m h k = absurd k

-- the larger side and the smaller
pub sides : (a b g l : ℕ) → g ≡ max a b → l ≡ min a b → root_units (sq (amount g) + sq (amount l)) ≡ root_units (sq (amount a) + sq (amount b))
sides a b g l G L = elim (lt_or_le a b) [
  | inl h ↦ rw (G, L, max-eq_right (le_of_lt h), min-eq_left (le_of_lt h)) (ap root_units (add_comm (sq (amount b)) (sq (amount a))))
  | inr h ↦ rw (G, L, max-eq_left h, min-eq_right h) refl
]

-- 1 beside a finite number
pub beside_one : (x : Float) → T (fits binary64 x) → to_bits binary64 x % 2 ^ 63 < 2047 * 2 ^ 52 → root_units (sq (amount (to_bits binary64 x % 2 ^ 63)) + sq (amount 4607182418800017408)) ≡ hypot_of x one
beside_one x f h = sym (both x one _ _ _ _ (value x f h) (bits_val 4607182418800017408 (omega arith)))
