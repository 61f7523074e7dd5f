-- `roots::hypot` meets its contract. Assumes nothing.
use mathlib.Core.Path.{sym, ◌∙◌, ap, subst}
use lib.Dec.{T}
use lib.Ieee.{Float, binary64, fits}
use lib.Ieee.Compare.{differs_from_itself}
use Rattle.laws.proofs.Floats.{self_same}
use Rattle.laws.proofs.Patterns.{below_nan}
use Rattle.laws.proofs.Values.{value, infinite}
use Rattle.laws.proofs.Patterns.{inf_pattern}
use Rattle.roots.specs.Hypot.{hypot_of}
use Rattle.roots.proofs.AtPatterns.{nan_right, inf_left, inf_right, both, sides}
use Rattle.roots.proofs.hypot.Goals as goal

pub returns-then-x : goal.returns-then-x
returns-then-x c = let e = differs_from_itself c.args.x (subst T (sym c.if-x.true) tt) in
    c.beside_nan.ensures ∙ sym (ap (λ (v : Float). hypot_of v c.args.y) e)

pub returns-then-y : goal.returns-then-y
returns-then-y c = let e = differs_from_itself c.args.y (subst T (sym c.if-y.true) tt) in
    c.beside_nan-then-y.ensures ∙ sym (ap (λ (v : Float). hypot_of c.args.x v) e ∙ nan_right c.args.x)

pub float_to_bits-a : goal.float_to_bits-a
float_to_bits-a c = self_same c.args.x c.if-x.false

pub float_to_bits-b : goal.float_to_bits-b
float_to_bits-b c = self_same c.args.y c.if-y.false

pub returns-then-a-ge-INFINITY : goal.returns-then-a-ge-INFINITY
returns-then-a-ge-INFINITY c = let held_x : T (fits binary64 c.args.x) = subst T (sym c.well_formed.0.1) tt in
    let e = infinite c.args.x held_x (self_same _ c.if-x.false) c.if-a-ge-INFINITY.true in
    inf_pattern ∙ sym (ap (λ (v : Float). hypot_of v c.args.y) e ∙ inf_left _ c.args.y)

pub returns-then-b-ge-INFINITY : goal.returns-then-b-ge-INFINITY
returns-then-b-ge-INFINITY c = let held_y : T (fits binary64 c.args.y) = subst T (sym c.well_formed.1.0.1) tt in
    let e = infinite c.args.y held_y (self_same _ c.if-y.false) c.if-b-ge-INFINITY.true in
    inf_pattern ∙ sym (ap (λ (v : Float). hypot_of c.args.x v) e ∙ inf_right c.args.x _)

pub float_from_bits-result : goal.float_from_bits-result
float_from_bits-result c = below_nan c.hypot_bits.result c.hypot_bits.ensures.1

pub returns : goal.returns
returns c = let held_x : T (fits binary64 c.args.x) = subst T (sym c.well_formed.0.1) tt in
    let held_y : T (fits binary64 c.args.y) = subst T (sym c.well_formed.1.0.1) tt in
    c.hypot_bits.ensures.0
    ∙ sides _ _ _ _ c.max.ensures c.min.ensures
    ∙ sym (both c.args.x c.args.y _ _ _ _ (value c.args.x held_x c.if-a-ge-INFINITY.false) (value c.args.y held_y c.if-b-ge-INFINITY.false))
