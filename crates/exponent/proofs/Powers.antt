-- The bit patterns of binary64's positive normal values: what number each stands for. Assumes nothing.
use Rattle.std.proofs.Common.{◌≡◌, ℕ, suc, ◌+◌, ◌-◌, ◌*◌, ◌/◌, ◌%◌, ◌^◌, ◌<◌, ◌≤◌, false, sym, ap, ◌∙◌, subst, mul-pos, div-add-mod', arith, pow_pos}
use lib.Ieee.{Float, binary64, odd, of_fields, of_bits}
use lib.Ieee.Exact.{HasValue, odd_sign}
use Rattle.laws.proofs.Patterns.{of_fields_lem, normal_fields}
use Rattle.exponent.specs.Exp.{pow2_of}

field : (b : ℕ) → 4503599627370496 ≤ b → suc (b / 4503599627370496 - 1) ≡ b / 4503599627370496
field b h = omega arith

normal : (b : ℕ) → 4503599627370496 ≤ b → b < 9218868437227405312 → of_bits binary64 b ≡ odd 53 false (4503599627370496 + b % 4503599627370496) (b / 4503599627370496 - 1) 1074
normal b h k =
    ap (of_bits binary64) (sym (div-add-mod' b 4503599627370496))
    ∙ of_fields_lem (b / 4503599627370496) (b % 4503599627370496) (omega arith) (omega arith)
    ∙ ap (λ (x : ℕ). of_fields binary64 false x (b % 4503599627370496)) (sym (field b h))
    ∙ normal_fields (b / 4503599627370496 - 1) (b % 4503599627370496) (omega arith)

-- the number in units of 2 ^ -1074
abbrev pub val : ℕ → ℕ
val b = (4503599627370496 + b % 4503599627370496) * 2 ^ (b / 4503599627370496 - 1)

pub bits_is : (b : ℕ) → 4503599627370496 ≤ b → b < 9218868437227405312 → HasValue (of_bits binary64 b) false (val b) (2 ^ 1074)
bits_is b h k = subst (λ (x : Float). HasValue x false (val b) (2 ^ 1074)) (sym (normal b h k)) (odd_sign 53 false (4503599627370496 + b % 4503599627370496) (b / 4503599627370496 - 1) 1074)

pub val_pos : (b : ℕ) → 0 < val b
val_pos b = mul-pos (some (b % 4503599627370496)) (pow_pos (b / 4503599627370496 - 1))
  where
    some : (t : ℕ) → 0 < 4503599627370496 + t
    some t = omega arith

-- 2 ^ (b - 1023), for b from 1 to 2046
pub pow2_value : (b : ℕ) → 0 < b → b < 2047 → HasValue (pow2_of b) false (val (b * 4503599627370496)) (2 ^ 1074)
pow2_value b h k = bits_is (b * 4503599627370496) (omega arith) (omega arith)
