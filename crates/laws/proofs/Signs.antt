-- Which results are no NaN, and which sign they have. Assumes nothing.
use mathlib.Core.Path.{◌≡◌, refl, sym, ap, ◌∙◌, subst}
use Prim.Native.Nat.{ℕ, zero, suc, ◌+◌, ◌*◌, ◌^◌, ◌≤◌, ◌<◌}
use native.Mathlib.Nat.{lt_irrefl, zero-mul, mul-pos, mul-le-mul_right, le_of_mul-le-mul_right}
use native.Mathlib.Omega.{arith}
use mathlib.Core.Bool.{Bool, true, false, not}
use lib.Dec.{T, ltb, eqb, eqb→eq, not_T, lit≤}
use lib.IntN.{ℤ}
use lib.Ieee.{Float, unlike, nan, inf, fin, Format, binary64, prec, emax, low, up, down, odd, units, round, mul, lt, is_nan, of_bits}
use lib.Arith.{le→nltb}
use lib.Ieee.Fits.{round_is, down_pos}
use lib.Ieee.Bits.{cond_no}
use lib.Ieee.Exact.{HasValue}
use Rattle.laws.specs.Floats.{◌+f◌, ◌*f◌, +0}
use Rattle.laws.proofs.Choices.{cond_ind}
use Rattle.laws.proofs.Ops.{apply, add_value}
use Rattle.laws.proofs.Interval.{Iv, Above, lim}

-- x is no NaN and has the sign s
abbrev pub Signed : Bool → Float → Type 0
Signed s nan = ⊥
Signed s (inf t) = t ≡ s
Signed s (fin t m e) = t ≡ s

pub signed_no_nan : (s : Bool) (x : Float) → Signed s x → T (not (is_nan x))
unfolding is_nan
signed_no_nan s nan h = absurd h
signed_no_nan s (inf t) h = tt
signed_no_nan s (fin t m e) h = tt

-- without a sign it is not below zero
pub signed_not_below : (x : Float) → Signed false x → T (not (lt x +0))
unfolding lt of_bits
signed_not_below nan h = absurd h
signed_not_below (inf t) h = subst (λ (b : Bool). T (not b)) (sym h) tt
signed_not_below (fin true m e) h = absurd (subst T h tt)
signed_not_below (fin false m e) h = le→nltb (m * up e * 1) (0 * down e) (omega arith)

pub above_signed : (x : Float) (B : ℕ) → Above x B → Signed false x
above_signed nan B h = h
above_signed (inf s) B h = absurd h
above_signed (fin s m e) B h = h.0

-- ---- rounding keeps the sign
odd_signed : (d : ℕ) (s : Bool) (q k l : ℕ) → Signed s (odd d s q k l)
unfolding odd
odd_signed d s zero k l = refl
odd_signed d s (suc q) k l = refl

units_signed : (f : Format) (s : Bool) (q k : ℕ) → Signed s (units f s q k)
unfolding units
units_signed f s q k = cond_ind (Signed s) (ltb (q * 2 ^ k) (2 ^ (low f + suc (emax f)))) (odd_signed (suc (prec f)) s q k (low f)) refl

pub round_signed : (f : Format) (s : Bool) (a b : ℕ) → Signed s (round f s a b)
round_signed f s a b = subst (Signed s) (sym (round_is f s a b)) (units_signed f s _ _)

-- ---- products
pub mul_signed : (s : Bool) (m : ℕ) (e : ℤ) (t : Bool) (n : ℕ) (d : ℤ) → Signed (unlike s t) (fin s m e *f fin t n d)
unfolding mul
mul_signed s m e t n d = round_signed binary64 (unlike s t) (m * up e * (n * up d)) (down e * down d)

no_zero : (m w n d : ℕ) → m * w * 2 ^ 1074 ≡ n * d → 0 < n → 0 < d → m ≡ 0 → ⊥
no_zero m w n d e N D z = lt_irrefl 0 (subst (λ (i : ℕ). 0 < i) (sym e ∙ ap (λ (i : ℕ). i * w * 2 ^ 1074) z ∙ ap (λ (i : ℕ). i * 2 ^ 1074) (zero-mul w)) (mul-pos N D))

-- times a positive finite value
pub times_signed : (v p : Float) (n : ℕ) → Signed false v → HasValue p false n (2 ^ 1074) → 0 < n → Signed false (v *f p)
unfolding mul
times_signed nan p n h k N = absurd h
times_signed (inf t) nan n h k N = absurd k
times_signed (inf t) (inf j) n h k N = absurd k
times_signed (inf t) (fin j m e) n h k N =
    subst (Signed false) (sym (cond_no (eqb m 0) nan (inf (unlike t j)) (not_T (eqb m 0) (λ (z : T (eqb m 0)). no_zero m (up e) n (down e) k.1 N (down_pos e) (eqb→eq m 0 z)))))
    (λ i. unlike (h i) (k.0 i))
times_signed (fin t q d) nan n h k N = absurd k
times_signed (fin t q d) (inf j) n h k N = absurd k
times_signed (fin t q d) (fin j m e) n h k N = subst (λ (z : Bool). Signed z (round binary64 (unlike t j) (q * up d * (m * up e)) (down d * down e))) (λ i. unlike (h i) (k.0 i)) (mul_signed t q d j m e)

-- ---- a sum of something above R / 2^20 and something that is no larger in size
smaller : (s : Bool) (n d m e R C : ℕ) → C ≤ R → n * 1048576 ≤ lim s C C * d → R * e ≤ m * 1048576 → n * e ≤ m * d
smaller true n d m e R C l h k = le_of_mul-le-mul_right {m = n * e} {n = m * d} {k = 1048576} (omega (arith, mul-le-mul_right e h, mul-le-mul_right (d * e) l, mul-le-mul_right d k)) (lit≤ tt)
smaller false n d m e R C l h k = le_of_mul-le-mul_right {m = n * e} {n = m * d} {k = 1048576} (omega (arith, mul-le-mul_right e h, mul-le-mul_right (d * e) l, mul-le-mul_right d k)) (lit≤ tt)

pub plus_signed : (x y : Float) (R C : ℕ) → C ≤ R → Above x R → Iv y C C → Signed false (x +f y)
plus_signed nan y R C l h k = absurd h
plus_signed (inf s) y R C l h k = absurd h
plus_signed (fin s m e) nan R C l h k = absurd k
plus_signed (fin s m e) (inf t) R C l h k = absurd k
plus_signed (fin s m e) (fin t n d) R C l h k =
    subst (Signed false)
    (sym (add_value (fin s m e) (fin t n d) t (m * up e) (down e) (n * up d) (down d) (down_pos e) (down_pos d) (h.0, refl) (refl, refl) (smaller t (n * up d) (down d) (m * up e) (down e) R C l k h.1)))
    (round_signed binary64 false (apply t (m * up e * down d) (n * up d * down e)) (down e * down d))
