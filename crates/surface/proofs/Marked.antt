-- M7: taus 1, 2, 4 at 2: segment 0..1, x 1. M8: taus 1, 2 at 1.5: x 0.5; at 2.5: 37. M-109: the same at 0.5, before the first. Of lent runs, with every test made, by computation on the definitions that the contracts cite.
use mathlib.Core.Path.{◌≡◌, refl}
use mathlib.Core.List.{List, [], ◌∷◌}
use Rattle.std.specs.Prelude.{ℕ, Result, Ok, Err}
use lib.Ieee.{Float, add, sub, mul, div, lt, le, eq, ne, of_bits}
use Rattle.laws.specs.Floats.{f64, +0, half, one, two, four, abs_of, finite, max_of, min_of}
use Rattle.laws.specs.Loop.{turns, search_on}
use Rattle.roots.specs.Root.{root_of}
use Rattle.slice.specs.declared.SviSlice.{SviSlice}
use Rattle.slice.specs.Slice.{number_of, domain_number, range_number, lowest_of, lee_of}
use Rattle.slice.proofs.Marked.{m6_slice}
use Rattle.point.specs.Point.{point_number}
use Rattle.surface.specs.declared.types.ShortExpiryPolicy.TheVariants.{Reject}
use Rattle.surface.specs.declared.types.Bracket.{Bracket}
use Rattle.surface.specs.declared.types.Bracket.TheVariants.{Segment, Short}
use Rattle.surface.specs.Runs.{pad, run_of, taus_of, first_bad, rises_of, check_run}
use Rattle.surface.specs.Lookup.{before_of, after_of, tolerance_of, tolerances_of, near_of, node_of, beyond_of, on_node, inside_of, lookup_of, bracket_of, default_policy}
use Rattle.surface.specs.Surface.{bracket_in, bracket_run}

-- M6's slice at another tau
abbrev pub expiring : Float → SviSlice
expiring tau = record { tau = tau; a = m6_slice.a; b = m6_slice.b; rho = m6_slice.rho; m = m6_slice.m; sigma = m6_slice.sigma; k_range = m6_slice.k_range }

-- the bracket of a lent run at a tau, under Reject
abbrev pub bracketed : List SviSlice → Float → Result Bracket ℕ
bracketed slices tau = bracket_run (run_of slices) Reject +0 tau

abbrev pub m7_slices : List SviSlice
m7_slices = expiring one ∷ expiring two ∷ expiring four ∷ []

abbrev pub m8_slices : List SviSlice
m8_slices = expiring one ∷ expiring two ∷ []

pub m7 : bracketed m7_slices two ≡ Ok (Segment 0 1 one)
unfolding pad bracket_run bracket_in bracket_of lookup_of inside_of on_node beyond_of node_of near_of tolerances_of tolerance_of after_of before_of check_run rises_of first_bad taus_of turns search_on point_number number_of domain_number range_number lowest_of lee_of abs_of finite max_of min_of root_of add sub mul div lt le ne eq of_bits
m7 = refl

-- at 1.5 and at 2.5
pub m8 : (bracketed m8_slices (f64 0x3ff8_0000_0000_0000) ≡ Ok (Segment 0 1 half)) × (bracketed m8_slices (f64 0x4004_0000_0000_0000) ≡ Err 37)
unfolding pad bracket_run bracket_in bracket_of lookup_of inside_of on_node beyond_of node_of near_of tolerances_of tolerance_of after_of before_of check_run rises_of first_bad taus_of turns search_on point_number number_of domain_number range_number lowest_of lee_of abs_of finite max_of min_of root_of add sub mul div lt le ne eq of_bits
m8 = (refl, refl)

-- at 0.5: Reject refuses, by its name; who names no policy is answered with the first slice
pub near_expiry : (bracketed m8_slices half ≡ Err 36) × (bracket_run (run_of m8_slices) default_policy +0 half ≡ Ok Short)
unfolding pad bracket_run bracket_in bracket_of lookup_of inside_of on_node beyond_of node_of near_of tolerances_of tolerance_of after_of before_of check_run rises_of first_bad taus_of turns search_on point_number number_of domain_number range_number lowest_of lee_of abs_of finite max_of min_of root_of add sub mul div lt le ne eq of_bits
near_expiry = (refl, refl)
