-- M6: a slice a 0.25, b 0.5, rho 0, m 0, sigma 3: minimum 1.75; w at 0 is 1.75, at 4 is 2.75. By computation on the definitions that the contracts cite.
use mathlib.Core.Path.{◌≡◌, refl}
use lib.Ieee.{Float, add, sub, mul, div, lt, le, eq, ne, of_bits}
use Rattle.laws.specs.Floats.{f64, +0, quarter, half, one, four, abs_of, finite, max_of}
use Rattle.roots.specs.Root.{root_of}
use Rattle.roots.specs.Hypot.{hypot_of}
use Rattle.slice.specs.declared.SviSlice.{SviSlice}
use Rattle.std.specs.Prelude.{ℕ, Result, Ok, Err}
use Rattle.slice.specs.declared.Values.{Values}
use Rattle.slice.specs.Slice.{number_of, domain_number, range_number, lowest_of, lee_of, level_if_good, minimum_of, eval_of, eval_raw, judged_of, values_of, values_at, wing_of, across_of, along_of}

-- with tau 1, and k from 0 to 1
abbrev pub m6_slice : SviSlice
m6_slice = record { tau = one; a = quarter; b = half; rho = +0; m = +0; sigma = f64 0x4008_0000_0000_0000; k_range = record { lo = +0; hi = one } }

-- w of an answer
abbrev pub w_of : Result Values ℕ → Float
w_of (Ok v) = v.w
w_of (Err n) = +0

-- 1.75 and 2.75
abbrev pub low : Float
low = f64 0x3ffc_0000_0000_0000

abbrev pub high : Float
high = f64 0x4006_0000_0000_0000

pub m6 : (minimum_of m6_slice ≡ Ok low) × (w_of (eval_of m6_slice +0) ≡ low) × (w_of (eval_of m6_slice four) ≡ high)
unfolding minimum_of level_if_good eval_of number_of domain_number range_number lowest_of lee_of abs_of finite max_of root_of eval_raw judged_of values_of values_at wing_of across_of along_of hypot_of add sub mul div lt le ne eq of_bits
m6 = (refl, refl, refl)
