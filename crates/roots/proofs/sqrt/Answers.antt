-- `roots::sqrt` meets its contract: each way out is a law at the pattern of x. Assumes nothing.
use mathlib.Core.Path.{refl, ◌≡◌, sym, ◌∙◌, subst}
use Prim.Native.Nat.{◌^◌, ◌<◌}
use native.Mathlib.Nat.{mod-eq_of_lt}
use native.Mathlib.Omega.{arith}
use lib.Dec.{T}
use lib.Ieee.{Float, binary64, fits, of_bits, to_bits}
use lib.Ieee.Bits.{of_bits-to_bits, to_bits-lt}
use lib.Ieee.Compare.{differs_from_itself}
use Rattle.laws.proofs.Floats.{self_same, nan_of}
use Rattle.laws.proofs.Patterns.{Parted, parted_at, low_expo, below_nan}
use Rattle.roots.specs.Root.{root_of}
use Rattle.roots.proofs.AtPatterns.{root_nan, at_zero, at_negative, at_infinity, root_at}
use Rattle.roots.proofs.sqrt.Goals as goal

pub returns-then-x : goal.returns-then-x
returns-then-x c = let e = differs_from_itself c.args.x (subst T (sym c.if-x.true) tt) in
    rw e (sym root_nan)

pub float_to_bits-b : goal.float_to_bits-b
float_to_bits-b c = self_same c.args.x c.if-x.false

pub returns-then-b-eq0 : goal.returns-then-b-eq0
returns-then-b-eq0 c = let held : T (fits binary64 c.args.x) = subst T (sym c.well_formed.0.1) tt in
    let read_back : of_bits binary64 (to_bits binary64 c.args.x) ≡ c.args.x = of_bits-to_bits binary64 c.args.x held in
    let in_range_lem : to_bits binary64 c.args.x < 2 ^ 64 = to_bits-lt binary64 c.args.x held in
    subst (λ (v : Float). v ≡ root_of v) read_back (at_zero (to_bits binary64 c.args.x) in_range_lem c.if-b-eq0.true)

pub returns-then-b-ge-SIGN : goal.returns-then-b-ge-SIGN
returns-then-b-ge-SIGN c = let held : T (fits binary64 c.args.x) = subst T (sym c.well_formed.0.1) tt in
    let read_back : of_bits binary64 (to_bits binary64 c.args.x) ≡ c.args.x = of_bits-to_bits binary64 c.args.x held in
    let in_range_lem : to_bits binary64 c.args.x < 2 ^ 64 = to_bits-lt binary64 c.args.x held in
    nan_of _ refl ∙ sym (subst (λ (v : Float). root_of v ≡ lib.Ieee.nan) read_back (at_negative (to_bits binary64 c.args.x) c.if-b-ge-SIGN.true in_range_lem c.if-b-eq0.false))

pub returns-then-b-ge-INFINITY : goal.returns-then-b-ge-INFINITY
returns-then-b-ge-INFINITY c = let held : T (fits binary64 c.args.x) = subst T (sym c.well_formed.0.1) tt in
    let read_back : of_bits binary64 (to_bits binary64 c.args.x) ≡ c.args.x = of_bits-to_bits binary64 c.args.x held in
    sym (subst (λ (v : Float). root_of v ≡ v) read_back (at_infinity (to_bits binary64 c.args.x) c.if-b-ge-SIGN.false c.if-b-ge-INFINITY.true))

pub float_from_bits-result : goal.float_from_bits-result
float_from_bits-result c = below_nan c.from_whole.result c.from_whole.ensures.1

pub returns-then-p-lt-FIELD : goal.returns-then-p-lt-FIELD
returns-then-p-lt-FIELD c = let held : T (fits binary64 c.args.x) = subst T (sym c.well_formed.0.1) tt in
    let parts : Parted (to_bits binary64 c.args.x) c.parts_of-p.result.m c.parts_of-p.result.e = parted_at (to_bits binary64 c.args.x) _ _ c.parts_of-p.ensures in
    let positive : 0 < to_bits binary64 c.args.x = omega (arith, c.if-b-eq0.false) in
    let z = low_expo parts c.if-p-lt-FIELD.true in
    c.from_whole.ensures.0
    ∙ root_at c.args.x held c.if-b-ge-INFINITY.false positive _ _ _ _ _ c.parts_of-p.ensures (mod-eq_of_lt (omega (arith, c.short_by-by.ensures))) (omega arith)

pub float_from_bits-result-2 : goal.float_from_bits-result-2
float_from_bits-result-2 c = below_nan c.scaled.result c.scaled.ensures.1

pub returns : goal.returns
returns c = let held : T (fits binary64 c.args.x) = subst T (sym c.well_formed.0.1) tt in
    let positive : 0 < to_bits binary64 c.args.x = omega (arith, c.if-b-eq0.false) in
    c.scaled.ensures.0
    ∙ root_at c.args.x held c.if-b-ge-INFINITY.false positive _ _ _ 0 _ c.parts_of-p.ensures (omega arith) (omega arith)
