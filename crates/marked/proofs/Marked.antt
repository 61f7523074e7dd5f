-- The marked examples of document 01, M1 to M10, as one table under a single theorem: each by computation on the definitions that the contracts cite. Assumes nothing.
use mathlib.Core.Path.{◌≡◌}
use mathlib.Core.List.{List, [], ◌∷◌}
use lib.ListN.{get_or, length}
use lib.Ieee.{Float}
use Rattle.std.specs.Prelude.{Ok, Err}
use Rattle.laws.specs.Floats.{f64, +0, quarter, half, one, two, four}
use Rattle.roots.specs.Root.{root_of}
use Rattle.roots.specs.Hypot.{hypot_of}
use Rattle.roots.proofs.Marked as roots
use Rattle.moves.proofs.Marked as moves
use Rattle.moves.proofs.Marked.{unit_axis}
use Rattle.weights.specs.Weights.{median_of, capped_of}
use Rattle.weights.proofs.Marked as weights
use Rattle.weights.proofs.Marked.{one_to_four, ones_and, ten}
use Rattle.slice.specs.Slice.{minimum_of, eval_of}
use Rattle.slice.proofs.Marked as slice
use Rattle.slice.proofs.Marked.{m6_slice, w_of}
use Rattle.surface.specs.declared.types.Bracket.TheVariants.{Segment}
use Rattle.surface.proofs.Marked as surface
use Rattle.surface.proofs.Marked.{bracketed, m7_slices, m8_slices}
use Rattle.diagnostics.specs.Walk.{butterfly_of}
use Rattle.diagnostics.proofs.Marked as diagnostics
use Rattle.faces.specs.Faces.{sets, sets_up_to}
use Rattle.faces.proofs.Marked as faces

pub record Table : Type 0 where
  -- M1: the root of 2.25 is 1.5
  pub m1 : root_of (f64 0x4002_0000_0000_0000) ≡ f64 0x3ff8_0000_0000_0000
  -- M2: the hypotenuse of 3 and 4 is 5
  pub m2 : hypot_of (f64 0x4008_0000_0000_0000) (f64 0x4010_0000_0000_0000) ≡ f64 0x4014_0000_0000_0000
  -- M3: the axis 0 to 1 by 5 is 0, 0.25, 0.5, 0.75, 1
  pub m3 : ◌≡◌ {A = List Float} (unit_axis 0 ∷ unit_axis 1 ∷ unit_axis 2 ∷ unit_axis 3 ∷ unit_axis 4 ∷ []) (+0 ∷ quarter ∷ half ∷ f64 0x3fe8_0000_0000_0000 ∷ one ∷ [])
  -- M4: the median of 1, 2, 3, 4 is 2.5
  pub m4 : median_of one_to_four ≡ f64 0x4004_0000_0000_0000
  -- M5: of the weights 1, 1, 1, 1, 16 at the ratio 10 position 4 is capped; with 10 in place of 16 none is
  pub m5 : (capped_of ten (ones_and (f64 0x4030_0000_0000_0000)) ≡ 4 ∷ []) × (capped_of ten (ones_and ten) ≡ [])
  -- M6: a slice a 0.25, b 0.5, rho 0, m 0, sigma 3 has the minimum 1.75; w at 0 is 1.75, at 4 it is 2.75
  pub m6 :
      (minimum_of m6_slice ≡ Ok (f64 0x3ffc_0000_0000_0000)) × (w_of (eval_of m6_slice +0) ≡ f64 0x3ffc_0000_0000_0000)
      × (w_of (eval_of m6_slice four) ≡ f64 0x4006_0000_0000_0000)
  -- M7: taus 1, 2, 4 at 2: segment 0..1, x 1
  pub m7 : bracketed m7_slices two ≡ Ok (Segment 0 1 one)
  -- M8: taus 1, 2 at 1.5: x 0.5; at 2.5: 37
  pub m8 : (bracketed m8_slices (f64 0x3ff8_0000_0000_0000) ≡ Ok (Segment 0 1 half)) × (bracketed m8_slices (f64 0x4004_0000_0000_0000) ≡ Err 37)
  -- M9: the butterfly value at k 2, w 1, w_k 1, w_kk 0 is -0.3125
  pub m9 : butterfly_of two one one +0 ≡ f64 0xbfd4_0000_0000_0000
  -- M10: of the 21 pairs of faces the first is {0,1}, the last {5,6}
  pub m10 :
      (get_or (sets 2 7 0) 0 [] ≡ 0 ∷ 1 ∷ []) × (get_or (sets 2 7 0) 20 [] ≡ 5 ∷ 6 ∷ []) × (length (sets 2 7 0) ≡ 21)
      × (get_or (sets_up_to 3 7) 8 [] ≡ 0 ∷ 1 ∷ []) × (get_or (sets_up_to 3 7) 28 [] ≡ 5 ∷ 6 ∷ [])

pub marked : Table
marked =
    record {
      m1 = roots.m1;
      m2 = roots.m2;
      m3 = moves.m3;
      m4 = weights.m4;
      m5 = (weights.m5, weights.m5_none);
      m6 = slice.m6;
      m7 = surface.m7;
      m8 = surface.m8;
      m9 = diagnostics.m9;
      m10 = faces.m10;
    }
