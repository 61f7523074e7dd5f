-- `roots::hypot_bits` meets its contract. Assumes nothing.
use mathlib.Core.Path.{◌∙◌, ap}
use Prim.Native.Nat.{◌≤◌}
use native.Mathlib.Omega.{arith}
use Rattle.laws.proofs.Patterns.{Parted, parted_at, expo_le, expo_mono}
use Rattle.roots.specs.Root.{root_units}
use Rattle.roots.proofs.Sides.{near_between, near_held, sums, far}
use Rattle.roots.proofs.hypot_bits.Goals as goal

pub returns-then-d-ge27 : goal.returns-then-d-ge27
returns-then-d-ge27 c = (far _ _ _ _ _ _ c.parts_of-x.ensures c.parts_of-y.ensures c.requires.0 c.requires.1 c.if-d-ge27.true, omega arith)

pub place-requires : goal.place-requires
place-requires c = let larger : Parted c.args.a c.parts_of-x.result.m c.parts_of-x.result.e = parted_at c.args.a _ _ c.parts_of-x.ensures in
    let smaller : Parted c.args.b c.parts_of-y.result.m c.parts_of-y.result.e = parted_at c.args.b _ _ c.parts_of-y.ensures in
    let ordered : c.parts_of-y.result.e ≤ c.parts_of-x.result.e = expo_mono larger smaller c.requires.0 in (
      c.near_root-n.ensures.0,
      expo_le larger c.requires.1,
      near_held _ _ _ _ ordered _ _ c.near_root-n.ensures.1 larger.held,
    )

pub returns : goal.returns
returns c = let larger : Parted c.args.a c.parts_of-x.result.m c.parts_of-x.result.e = parted_at c.args.a _ _ c.parts_of-x.ensures in
    let smaller : Parted c.args.b c.parts_of-y.result.m c.parts_of-y.result.e = parted_at c.args.b _ _ c.parts_of-y.ensures in
    let ordered : c.parts_of-y.result.e ≤ c.parts_of-x.result.e = expo_mono larger smaller c.requires.0 in (
      c.place.ensures.1 _ (near_between _ _ _ _ ordered _ _ c.near_root-n.ensures.1) ∙ ap root_units (sums _ _ _ _ _ _ c.parts_of-x.ensures c.parts_of-y.ensures),
      c.place.ensures.0,
    )
