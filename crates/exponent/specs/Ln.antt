-- ln, as a fixed list of rounded steps. Definitions only.
-- docs/ELEMENTARY.md, 'ln(x)': a name here is the page's, with `Of` behind it where it is a function.
use Rattle.std.specs.Prelude.{ℕ, ◌+◌, ◌-◌, ◌*◌, ◌/◌, ◌%◌, true, false, cond, to_bits, Float}
use Rattle.std.specs.Float.{nan, inf, binary64}
use Rattle.std.specs.Float.Ieee.{lt, eq, ne}
use Rattle.laws.specs.Loop.{for}
use Rattle.laws.specs.Floats.{◌+f◌, ◌-f◌, ◌*f◌, ◌/f◌, f64, num, +0, half, one, two}
use Rattle.exponent.specs.Steps.{three, ln2_hi, ln2_lo, grid18, grid35, rounded_to, lost_of}

-- tail becomes (tail + 2 / (25 - 2 j)) * z for j = 0 .. 10: 2/5 z + 2/7 z^2 + .. + 2/25 z^11
unfoldable pub tail_of : Float → Float
tail_of z = for 0 11 (λ (j : ℕ) (tail : Float). (tail +f two /f num (25 - 2 * j)) *f z) +0

-- ln (1 + f) = 2 ratio + 2/3 ratio^3 + 2/5 ratio^5 + ..
abbrev pub ratio_of : Float → Float
ratio_of f = f /f (two +f f)

-- 2/5 ratio^5 + 2/7 ratio^7 + .., and what behind adds to 2/3 t^3, for ratio = t + behind
unfoldable pub fifth_of : Float → Float → Float → Float → Float
fifth_of ratio t behind tail = behind *f (ratio *f ratio +f ratio *f t +f t *f t) *f two /f three +f ratio *f (ratio *f ratio) *f tail

-- 2 ratio is head - (cross + behind f), with head = f - t g and cross = t (f - g): t is ratio and g is f, each rounded to few digits, so that head is exact, and behind is ratio - t
abbrev pub cross_of : Float → Float → Float
cross_of f t = t *f (f -f rounded_to grid35 f)

abbrev pub head_of : Float → Float → Float
head_of f t = f -f t *f rounded_to grid35 f

abbrev pub behind_of : Float → Float → Float
behind_of f t = (f -f (t +f t) -f t *f rounded_to grid35 f -f cross_of f t) /f (two +f f)

abbrev pub cube_of : Float → Float
cube_of t = two *f (t *f t *f t) /f three

abbrev pub low_of : Float → Float → Float → Float → Float → Float
low_of k f ratio tail t = k *f ln2_lo +f (fifth_of ratio t (behind_of f t) tail -f (cross_of f t +f behind_of f t *f f))

-- high + head + cube + low, with what the roundings of the first two sums take away
unfoldable pub ln_from : Float → Float → Float → Float → Float
ln_from high head cube low = high +f head +f cube +f (lost_of (high +f head) cube +f (lost_of high head +f low))

abbrev pub sum_at : Float → Float → Float → Float → Float → Float
sum_at k f ratio tail t = ln_from (k *f ln2_hi) (head_of f t) (cube_of t) (low_of k f ratio tail t)

-- k ln 2 + ln (1 + f), and k ln 2 + ln m
abbrev pub sum_of : Float → Float → Float
sum_of k f = sum_at k f (ratio_of f) (tail_of (ratio_of f *f ratio_of f)) (rounded_to grid18 (ratio_of f))

unfoldable pub joined_of : Float → Float → Float
joined_of k m = sum_of k (m -f one)

-- the digits of a bit pattern b, as a number from 1 to 2
abbrev pub mantissa_of : ℕ → Float
mantissa_of b = f64 (4607182418800017408 + b % 4503599627370496)

-- the square root of 2; 1023 and 1077; 2 ^ -1022 and 2 ^ 54
abbrev pub root2 : Float
root2 = f64 0x3ff6_a09e_667f_3bcd

abbrev pub c1023 : Float
c1023 = f64 0x408f_f800_0000_0000

abbrev pub c1077 : Float
c1077 = f64 0x4090_d400_0000_0000

abbrev pub c2m1022 : Float
c2m1022 = f64 0x0010_0000_0000_0000

abbrev pub c2p54 : Float
c2p54 = f64 0x4350_0000_0000_0000

-- ln of y * 2 ^ (1023 - down), for a y that is finite, above zero and not subnormal, by its bit pattern b
abbrev pub from_bits : ℕ → Float → Float
from_bits b down =
    cond (lt root2 (mantissa_of b)) (joined_of (num (b / 4503599627370496 + 1) -f down) (mantissa_of b *f half))
    (joined_of (num (b / 4503599627370496) -f down) (mantissa_of b))

unfoldable pub normal_of : Float → Float → Float
normal_of y down = from_bits (to_bits binary64 y) down

-- the natural logarithm
unfoldable pub ln_of : Float → Float
ln_of x =
    cond (ne x x) x
    (cond (lt x +0) nan
    (cond (eq x +0) (inf true)
    (cond (eq x (inf false)) x
    (cond (lt x c2m1022) (normal_of (x *f c2p54) c1077) (normal_of x c1023)))))
