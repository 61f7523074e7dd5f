-- `roots::beside_nan` meets its contract. Assumes nothing.
use mathlib.Core.Path.{refl, sym, ◌∙◌, ap, subst}
use lib.Dec.{T}
use lib.Ieee.{Float, nan, binary64, fits}
use lib.Ieee.Compare.{differs_from_itself}
use Rattle.laws.proofs.Floats.{self_same, nan_of}
use Rattle.laws.proofs.Values.{value, infinite}
use Rattle.laws.proofs.Patterns.{inf_pattern}
use Rattle.roots.specs.Hypot.{hypot_of}
use Rattle.roots.proofs.AtPatterns.{nan_nan, inf_right, nan_value}
use Rattle.roots.proofs.beside_nan.Goals as goal

pub returns-then-y : goal.returns-then-y
returns-then-y c = let e = differs_from_itself c.args.y (subst T (sym c.if-y.true) tt) in
    rw e (sym nan_nan)

pub float_to_bits-y : goal.float_to_bits-y
float_to_bits-y c = self_same c.args.y c.if-y.false

pub returns-then-y-ge-INFINITY : goal.returns-then-y-ge-INFINITY
returns-then-y-ge-INFINITY c = let held : T (fits binary64 c.args.y) = subst T (sym c.well_formed.0.1) tt in
    let e = infinite c.args.y held (self_same _ c.if-y.false) c.if-y-ge-INFINITY.true in
    inf_pattern ∙ sym (ap (λ (v : Float). hypot_of nan v) e ∙ inf_right nan _)

pub returns : goal.returns
returns c = let held : T (fits binary64 c.args.y) = subst T (sym c.well_formed.0.1) tt in
    nan_of _ refl ∙ sym (nan_value c.args.y _ _ (value c.args.y held c.if-y-ge-INFINITY.false))
