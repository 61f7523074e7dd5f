-- `moves::points::linspace_at` meets its contract. Assumes nothing.
use Rattle.std.proofs.Common.{sym, refl, ◌∙◌, eq-eqb, ne_eqb}
use Rattle.laws.specs.Floats.{◌+f◌, ◌-f◌, ◌*f◌, ◌/f◌, num}
use Rattle.laws.proofs.Choices.{if_true, if_false}
use Rattle.moves.specs.Axis.{linspace_at}
use Rattle.moves.proofs.points.linspace_at.Goals as goal

pub returns-then-i-last : goal.returns-then-i-last
unfolding linspace_at
returns-then-i-last c = if_true _ (eq-eqb _ _ (c.if-i-last.true ∙ c.last_of-last.ensures)) refl

pub returns : goal.returns
unfolding linspace_at
returns c = let a = c.args in
    if_false _ (ne_eqb _ _ (λ e. c.if-i-last.false (e ∙ sym c.last_of-last.ensures)))
    ((λ i. a.lo +f (a.hi -f a.lo) *f c.nearest_u64_to_f64.ensures i /f c.nearest_u64_to_f64-2.ensures i)
    ∙ (λ i. a.lo +f (a.hi -f a.lo) *f num a.i /f num (c.last_of-last.ensures i)))
