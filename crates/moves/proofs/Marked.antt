-- M3 of document 01.
use Rattle.std.proofs.Common.{◌≡◌, ℕ, List, [], ◌∷◌, refl}
use lib.Ieee.{Float, of_bits, of_int, add, sub, mul, div}
use Rattle.laws.specs.Floats.{f64, +0, quarter, half, one}
use Rattle.moves.specs.Axis.{linspace_at, last_of}

abbrev pub unit_axis : ℕ → Float
unit_axis i = linspace_at +0 one 5 i

-- the axis 0 to 1 by 5: 0, 0.25, 0.5, 0.75, 1
pub m3 : ◌≡◌ {A = List Float} (unit_axis 0 ∷ unit_axis 1 ∷ unit_axis 2 ∷ unit_axis 3 ∷ unit_axis 4 ∷ []) (+0 ∷ quarter ∷ half ∷ f64 0x3fe8_0000_0000_0000 ∷ one ∷ [])
unfolding linspace_at last_of of_bits of_int add sub mul div
m3 = refl
