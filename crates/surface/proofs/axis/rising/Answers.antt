-- `surface::axis::rising` meets its contract. Assumes nothing.
use mathlib.Core.Path.{refl, sym, ap₂, ◌∙◌}
use mathlib.Core.Bool.{Bool, true, ◌&&◌}
use lib.Ieee.{nan, lt}
use Rattle.laws.specs.Floats.{finite, at}
use Rattle.laws.proofs.Choices.{if_true, if_false}
use Rattle.surface.specs.Axis.{rising_of}
use Rattle.surface.specs.Runs.{rises_of}
use Rattle.surface.proofs.Scans.{for_pairs, each_and_next}
use Rattle.surface.proofs.axis.rising.Goals as goal

pub returns-then-is_empty : goal.returns-then-is_empty
unfolding rising_of
returns-then-is_empty c = if_true _ (sym c.is_empty.ensures ∙ c.if-is_empty.true) refl

pub returns : goal.returns
unfolding rising_of rises_of
returns c =
    let v = c.args.v.now in
    let some = sym c.is_empty.ensures ∙ c.if-is_empty.false in
    if_false _ some (
    ap₂ (λ (a b : Bool). a && b) c.all_finite.ensures (c.rises.ensures ∙ for_pairs (λ x y. lt x y) nan v true)
    ∙ sym (each_and_next finite (λ x y. lt x y) nan v some)
    ∙ sym (for_pairs (λ x y. finite y && lt x y) nan v (finite (at v 0)))
    )
