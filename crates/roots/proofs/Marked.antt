-- The worked examples of the square root and the hypotenuse, each by computation.
use mathlib.Core.Path.{◌≡◌, refl}
use lib.Ieee.{of_bits}
use Rattle.laws.specs.Floats.{f64}
use Rattle.roots.specs.Root.{root_of}
use Rattle.roots.specs.Hypot.{hypot_of}

-- M1: the root of 2.25 is 1.5
pub m1 : root_of (f64 0x4002_0000_0000_0000) ≡ f64 0x3ff8_0000_0000_0000
unfolding root_of of_bits
m1 = refl

-- M2: the hypotenuse of 3 and 4 is 5
pub m2 : hypot_of (f64 0x4008_0000_0000_0000) (f64 0x4010_0000_0000_0000) ≡ f64 0x4014_0000_0000_0000
unfolding hypot_of of_bits
m2 = refl

-- √2
pub root_of_two : root_of (f64 0x4000_0000_0000_0000) ≡ f64 0x3ff6_a09e_667f_3bcd
unfolding root_of of_bits
root_of_two = refl

-- the root of the smallest value, 2 ^ -1074, is 2 ^ -537
pub root_of_least : root_of (f64 1) ≡ f64 0x1e60_0000_0000_0000
unfolding root_of of_bits
root_of_least = refl

-- two of the smallest values: √2 of them, so one
pub hypot_of_least : hypot_of (f64 1) (f64 1) ≡ f64 1
unfolding hypot_of of_bits
hypot_of_least = refl

-- the largest finite number twice is beyond the format
pub hypot_of_largest : hypot_of (f64 0x7fef_ffff_ffff_ffff) (f64 0x7fef_ffff_ffff_ffff) ≡ f64 0x7ff0_0000_0000_0000
unfolding hypot_of of_bits
hypot_of_largest = refl
