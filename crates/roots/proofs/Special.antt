-- The root and the length at special values, by name: NaN, the infinities, the zeros, negative numbers.
use mathlib.Core.Path.{◌≡◌, refl, ap, ◌∙◌}
use mathlib.Core.Bool.{Bool, true, false}
use Prim.Native.Nat.{ℕ, ◌^◌, ◌<◌}
use lib.Dec.{T}
use lib.Ieee.{Float, nan, inf, fin, binary64, lt, of_bits, fits}
use lib.Ieee.Exact.{HasValue}
use Rattle.laws.specs.Floats.{finite, +0}
use Rattle.laws.proofs.Choices.{false_true}
use Rattle.laws.proofs.Values.{finite_value, below_zero}
use Rattle.roots.specs.Root.{root_of, root_mag}
use Rattle.roots.specs.Hypot.{hypot_of}
use Rattle.roots.proofs.AtPatterns.{root_val, mag_neg, inf_left, inf_right, nan_right}

pub root_nan : root_of nan ≡ nan
unfolding root_of
root_nan = refl

pub root_infinity : root_of (inf false) ≡ inf false
unfolding root_of
root_infinity = refl

pub root_plus_zero : root_of (of_bits binary64 0) ≡ of_bits binary64 0
unfolding root_of of_bits
root_plus_zero = refl

pub root_minus_zero : root_of (of_bits binary64 (2 ^ 63)) ≡ of_bits binary64 (2 ^ 63)
unfolding root_of of_bits
root_minus_zero = refl

-- by its value
negative_value : (x : Float) (s : Bool) (n : ℕ) → HasValue x s n (2 ^ 1074) → (s ≡ true) × (0 < n) → root_of x ≡ nan
negative_value x s n v b = root_val x s n v ∙ ap (λ (s : Bool). root_mag s n) b.0 ∙ mag_neg n b.1

-- of any negative number, and of -infinity
pub root_negative : (x : Float) → T (fits binary64 x) → lt x +0 ≡ true → root_of x ≡ nan
unfolding lt root_of finite of_bits
root_negative nan f h = false_true h
root_negative (inf true) f h = refl
root_negative (inf false) f h = false_true h
root_negative (fin s m e) f h = let v = finite_value (fin s m e) f refl in negative_value (fin s m e) _ _ v (below_zero (fin s m e) _ _ h v)

pub hypot_infinity_left : (s : Bool) (y : Float) → hypot_of (inf s) y ≡ inf false
hypot_infinity_left = inf_left

pub hypot_infinity_right : (x : Float) (s : Bool) → hypot_of x (inf s) ≡ inf false
hypot_infinity_right = inf_right

pub hypot_nan_nan : hypot_of nan nan ≡ nan
unfolding hypot_of
hypot_nan_nan = refl

pub hypot_nan_left : (y : Float) → finite y ≡ true → hypot_of nan y ≡ nan
unfolding hypot_of finite
hypot_nan_left nan h = refl
hypot_nan_left (inf t) h = false_true h
hypot_nan_left (fin t n d) h = refl

pub hypot_nan_right : (x : Float) → finite x ≡ true → hypot_of x nan ≡ nan
hypot_nan_right x h = nan_right x ∙ hypot_nan_left x h
