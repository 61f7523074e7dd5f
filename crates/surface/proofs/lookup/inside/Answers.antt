-- `surface::lookup::inside` meets its contract. Assumes nothing.
use Rattle.std.specs.Prelude.{Ok}
use mathlib.Core.Path.{◌≡◌, refl, sym, ap, ◌∙◌}
use Prim.Native.Nat.{◌+◌, ◌-◌}
use native.Mathlib.Omega.{arith}
use borrow.Author.Tests.{lt-ltb, le-ltb}
use Rattle.laws.specs.Floats.{◌-f◌, ◌/f◌, at}
use Rattle.laws.proofs.Choices.{if_true, if_false}
use Rattle.surface.specs.Lookup.{inside_of}
use Rattle.surface.specs.declared.types.Bracket.TheVariants.{Segment}
use Rattle.surface.proofs.Fronts.{later_found, later_missed}
use Rattle.surface.proofs.lookup.inside.Goals as goal

pub returns-in-Some : goal.returns-in-Some
unfolding inside_of
returns-in-Some c = let l = c.args.taus.now in
    let tau = c.args.tau in
    let f = later_found l tau (sym c.in-Some.is ∙ c.node_below.ensures) in
    let lo = c.in-Some.lo in
    let e : lo ≡ lo + 1 - 1 = omega arith in
    rw f.1 (if_true _ (lt-ltb _ _ f.0) (ap (λ m. Ok (Segment m (lo + 1) ((tau -f at l m) /f (at l (lo + 1) -f at l m)))) e))

pub returns-in-None : goal.returns-in-None
unfolding inside_of
returns-in-None c = let f = later_missed c.args.taus.now c.args.tau (sym c.in-None.is ∙ c.node_below.ensures) in
    if_false _ (le-ltb _ _ f) refl
