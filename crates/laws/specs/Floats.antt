-- Floats: binary64 and no other, each operation rounded once. Definitions only.
use Rattle.std.specs.Prelude.{Bool, true, false, ◌&&◌, ◌||◌, cond, List, ℕ, pos, get_or, Float}
use Rattle.std.specs.Float.{nan, inf, fin, binary64}
use Rattle.std.specs.Float.Ieee.{add, sub, mul, div, neg, lt, ne, of_bits, of_int}

-- the four operations
infixl 60 ◌+f◌
abbrev pub ◌+f◌ : Float → Float → Float
x +f y = add binary64 x y

infixl 60 ◌-f◌
abbrev pub ◌-f◌ : Float → Float → Float
x -f y = sub binary64 x y

infixl 70 ◌*f◌
abbrev pub ◌*f◌ : Float → Float → Float
x *f y = mul binary64 x y

infixl 70 ◌/f◌
abbrev pub ◌/f◌ : Float → Float → Float
x /f y = div binary64 x y

-- the float with a bit pattern, and the float nearest to a whole number
abbrev pub f64 : ℕ → Float
f64 b = of_bits binary64 b

abbrev pub num : ℕ → Float
num n = of_int binary64 (pos n)

abbrev pub +0 : Float
+0 = f64 0

abbrev pub quarter : Float
quarter = f64 0x3fd0_0000_0000_0000

abbrev pub half : Float
half = f64 0x3fe0_0000_0000_0000

abbrev pub one : Float
one = f64 0x3ff0_0000_0000_0000

abbrev pub two : Float
two = f64 0x4000_0000_0000_0000

abbrev pub four : Float
four = f64 0x4010_0000_0000_0000

-- element i of a list of floats
abbrev pub at : List Float → ℕ → Float
at l i = get_or l i nan

-- |x|
unfoldable pub abs_of : Float → Float
abs_of nan = nan
abs_of (inf s) = inf false
abs_of (fin s m e) = fin false m e

-- |x|, but for -0, which stays
abbrev pub unsigned_of : Float → Float
unsigned_of x = cond (lt x +0) (neg x) x

-- neither NaN nor an infinity
unfoldable pub finite : Float → Bool
finite nan = false
finite (inf s) = false
finite (fin s m e) = true

-- finite and above zero
abbrev pub positive : Float → Bool
positive x = finite x && lt +0 x

-- Rust's min and max: a NaN, which alone differs from itself, is passed over
unfoldable pub min_of : Float → Float → Float
min_of a b = cond (lt b a || ne a a) b a

unfoldable pub max_of : Float → Float → Float
max_of a b = cond (lt a b || ne a a) b a
