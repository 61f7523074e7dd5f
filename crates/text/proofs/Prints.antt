-- How some values print, by computation on the definitions: every NaN, both zeros, the largest count. Assumes nothing.
use mathlib.Core.Path.{◌≡◌, refl}
use mathlib.Core.Bool.{true, false}
use mathlib.Core.List.{[], ◌∷◌}
use lib.Ieee.{nan, to_bits, of_bits, binary64}
use Rattle.laws.specs.Loop.{turns}
use Rattle.laws.specs.Floats.{f64}
use Rattle.text.specs.Digits.{digits_of, decimal_of, hex_of, each, marks_of}
use Rattle.text.specs.Lines.{ascii, refused_line, active_line}
use Rattle.text.specs.Answers.{malformed_text}

pub nan_prints : hex_of (to_bits binary64 nan) ≡ ascii "7ff8000000000000"
unfolding to_bits digits_of
nan_prints = refl

-- so does a NaN with a sign and other bits
pub negative_nan_prints : hex_of (to_bits binary64 (f64 0xfff0_0000_0000_0001)) ≡ ascii "7ff8000000000000"
unfolding to_bits of_bits digits_of
negative_nan_prints = refl

pub minus_zero_prints : hex_of (to_bits binary64 (f64 0x8000_0000_0000_0000)) ≡ ascii "8000000000000000"
unfolding to_bits of_bits digits_of
minus_zero_prints = refl

pub largest_count_prints : decimal_of 18_446_744_073_709_551_615 ≡ ascii "18446744073709551615"
unfolding digits_of
largest_count_prints = refl

pub marks_print : active_line (false ∷ false ∷ false ∷ false ∷ false ∷ true ∷ false ∷ []) ≡ ascii "active 0000010\n"
unfolding active_line marks_of turns
marks_print = refl

pub malformed_prints : malformed_text ≡ ascii "refused 43 0 0\n"
unfolding refused_line each digits_of
malformed_prints = refl
