-- exp, as a fixed list of rounded steps. Definitions only.
-- docs/ELEMENTARY.md, 'exp(x)': a name here is the page's, with `Of` behind it where it is a function.
use Rattle.std.specs.Prelude.{ℕ, ◌+◌, ◌-◌, ◌*◌, ◌/◌, false, cond, Float}
use Rattle.std.specs.Float.{inf}
use Rattle.std.specs.Float.Ieee.{neg, lt, ne, to_unsigned}
use Rattle.laws.specs.Loop.{for}
use Rattle.laws.specs.Floats.{◌+f◌, ◌-f◌, ◌*f◌, ◌/f◌, f64, num, +0, half, one, two}
use Rattle.exponent.specs.Steps.{six, c24, c2m52, c710, c746, ln2_hi, ln2_lo, inv_ln2, grid18, rounded_to, corrected_of}

-- e becomes 1 + x / k * e, n times, with k = from, from - 1, ..
unfoldable pub horner_of : Float → ℕ → ℕ → Float → Float
horner_of x from n start = for 0 n (λ (j : ℕ) (e : Float). one +f x /f num (from - j) *f e) start

-- 1 + x/5 (1 + x/6 (1 + .. (1 + x/18))), and with it 1 + x/1 (1 + x/2 (1 + .. (1 + x/18)))
unfoldable pub upper_of : Float → Float
upper_of x = horner_of x 18 14 one

unfoldable pub series_of : Float → Float
series_of x = horner_of x 4 4 (upper_of x)

-- 1 + t + t^2/2, which is exact for a t of few digits
abbrev pub second_of : Float → Float
second_of t = one +f (t +f half *f t *f t)

-- the series' terms from x^4/24 on, and what x - t adds to 1 + t + t^2/2 + t^3/6
unfoldable pub fourth_of : Float → Float → Float → Float
fourth_of x t upper = (x -f t) *f (one +f ((x +f t) /f two +f (x *f x +f x *f t +f t *f t) /f six)) +f x *f x *f (x *f x) *f upper /f c24

-- what the series lacks of e ^ (x + y), with t for x rounded to few digits
abbrev pub lack_at : Float → Float → Float → Float → Float → Float
lack_at x y upper series t = second_of t -f series +f t *f t *f t /f six +f (fourth_of x t upper +f y *f series)

unfoldable pub lack_of : Float → Float → Float → Float → Float
lack_of x y upper series = lack_at x y upper series (rounded_to grid18 x)

-- e ^ (x + y): the series and what it lacks, of one part in 2 ^ 52 at most
unfoldable pub kernel_of : Float → Float → Float
kernel_of x y = corrected_of (series_of x) (lack_of x y (upper_of x) (series_of x)) (series_of x *f c2m52)

-- 0.3466, a little above half of ln 2
abbrev pub edge : Float
edge = f64 0x3fd6_2eb1_c432_ca58

-- how many times ln 2 goes into a, rounded to a whole number
abbrev pub quotient_of : Float → Float
quotient_of a = a *f inv_ln2 +f half

unfoldable pub turns_of : Float → ℕ
turns_of a = to_unsigned 64 (quotient_of a)

-- what is left of a with so many times ln 2 taken off
unfoldable pub rest_of : Float → ℕ → Float
rest_of a turns = a -f num turns *f ln2_hi -f num turns *f ln2_lo

-- and what the last rounding there took away
unfoldable pub rest_low_of : Float → ℕ → Float
rest_low_of a turns = a -f num turns *f ln2_hi -f rest_of a turns -f num turns *f ln2_lo

-- 2 ^ (b - 1023), for a b from 1 to 2046
abbrev pub pow2_of : ℕ → Float
pow2_of b = f64 (b * 4503599627370496)

-- e ^ a for an a above `edge`, and e ^ -a
unfoldable pub grown_of : Float → Float
grown_of a = kernel_of (rest_of a (turns_of a)) (rest_low_of a (turns_of a)) *f pow2_of (1023 + turns_of a / 2) *f pow2_of (1023 + (turns_of a - turns_of a / 2))

unfoldable pub shrunk_of : Float → Float
shrunk_of a = kernel_of (neg (rest_of a (turns_of a))) (neg (rest_low_of a (turns_of a))) *f pow2_of (1023 - turns_of a / 2) *f pow2_of (1023 - (turns_of a - turns_of a / 2))

-- e ^ x
unfoldable pub exp_of : Float → Float
exp_of x =
    cond (ne x x) x
    (cond (lt c710 x) (inf false)
    (cond (lt x (neg c746)) +0
    (cond (lt edge x) (grown_of x)
    (cond (lt x (neg edge)) (shrunk_of (neg x)) (kernel_of x +0)))))
