-- M9: butterfly at k 2, w 1, w_k 1, w_kk 0 is -0.3125. By computation on the definition that the contracts cite.
use mathlib.Core.Path.{◌≡◌, refl}
use lib.Ieee.{add, sub, mul, div, of_bits}
use Rattle.laws.specs.Floats.{f64, +0, one, two}
use Rattle.diagnostics.specs.Walk.{butterfly_of}

pub m9 : butterfly_of two one one +0 ≡ f64 0xbfd4_0000_0000_0000
unfolding butterfly_of add sub mul div of_bits
m9 = refl
