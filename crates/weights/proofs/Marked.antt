-- M4 and M5 of document 01.
use mathlib.Core.Path.{◌≡◌, refl}
use mathlib.Core.List.{List, [], ◌∷◌}
use lib.Ieee.{Float, lt, of_bits, add, sub, mul}
use Rattle.laws.specs.Loop.{turns}
use Rattle.laws.specs.Floats.{f64, one, two, four}
use Rattle.weights.specs.Weights.{insert_of, sort_of, mid_of, median_of, capped_at, capped_of}

-- M4: the median of 1, 2, 3, 4 is 2.5
abbrev pub one_to_four : List Float
one_to_four = one ∷ two ∷ f64 0x4008_0000_0000_0000 ∷ four ∷ []

pub m4 : median_of one_to_four ≡ f64 0x4004_0000_0000_0000
unfolding insert_of sort_of mid_of of_bits add sub mul lt
m4 = refl

-- M5: of 1, 1, 1, 1, 16 at the ratio 10 position 4 is capped; with 10 instead of 16 none
abbrev pub ten : Float
ten = f64 0x4024_0000_0000_0000

abbrev pub ones_and : Float → List Float
ones_and x = one ∷ one ∷ one ∷ one ∷ x ∷ []

pub m5 : capped_of ten (ones_and (f64 0x4030_0000_0000_0000)) ≡ 4 ∷ []
unfolding turns capped_at insert_of sort_of mid_of of_bits add sub mul lt
m5 = refl

pub m5_none : capped_of ten (ones_and ten) ≡ []
unfolding turns capped_at insert_of sort_of mid_of of_bits add sub mul lt
m5_none = refl
