-- `roots::lengths::from_pattern` meets its contract. Assumes nothing.
use mathlib.Core.Path.{refl, ◌∙◌, ap}
use Prim.Native.Nat.{◌≤◌}
use native.Mathlib.Omega.{arith}
use Rattle.laws.proofs.Patterns.{parted_at, expo_mono}
use Rattle.roots.specs.Root.{root_units}
use Rattle.roots.proofs.Sides.{near_floor, sums, far}
use Rattle.roots.proofs.lengths.from_pattern.Goals as goal
use Rattle.roots.proofs.lengths.from_pattern.Goals.{then-nearest_by-via-then-nearest_by, then-nearest_by-via-else-nearest_by+then-nearest_by-2}

pub returns-then-d-ge27 : goal.returns-then-d-ge27
returns-then-d-ge27 c = (far _ _ _ _ _ _ c.parts_of-x.ensures c.parts_of-y.ensures c.requires.0 c.requires.1 c.if-d-ge27.true, omega arith)

pub returns-then-nearest_by : goal.returns-then-nearest_by
returns-then-nearest_by c = let ordered = expo_mono (parted_at c.args.a _ _ c.parts_of-x.ensures) (parted_at c.args.b _ _ c.parts_of-y.ensures) c.requires.0 in
    let low : c.parts_of-y.result.e ≤ 1022 = expo_mono (parted_at 4607182418800017408 4503599627370496 1022 (refl, refl)) (parted_at c.args.b _ _ c.parts_of-y.ensures) c.requires.3 in
    let floor = near_floor c.parts_of-x.result.m c.parts_of-x.result.e c.parts_of-y.result.m c.parts_of-y.result.e ordered _ _ c.joined-t.ensures.0 c.joined-t.ensures.2 in
    let squares = ap root_units (sums _ _ _ _ _ _ c.parts_of-x.ensures c.parts_of-y.ensures) in
    elim c.then-nearest_by.branch [
      | then-nearest_by-via-then-nearest_by w ↦ let g = c.nearest_by.ensures w.if-nearest_by.true in (g.1 _ floor ∙ squares, omega (arith, g.0))
      | then-nearest_by-via-else-nearest_by+then-nearest_by-2 w ↦ let g = w.nearest_by-else-nearest_by.ensures w.if-nearest_by-2.true in (g.1 _ floor ∙ squares, omega (arith, g.0))
    ]
