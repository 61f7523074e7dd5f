-- `solver::solve` meets its contract. Assumes nothing.
use mathlib.Core.Path.{refl, sym, ◌∙◌}
use borrow.Author.Tests.{lt-leb}
use Rattle.laws.specs.Floats.{◌*f◌}
use Rattle.laws.proofs.Choices.{if_false}
use Rattle.solver.specs.Solve.{solve_of}
use Rattle.solver.proofs.Whole.{sized_by_scale, unscaled, scaled, answered}
use Rattle.solver.proofs.solve.Goals as goal

pub returns-then-n-gt6 : goal.returns-then-n-gt6
unfolding solve_of
returns-then-n-gt6 c = c.refused.ensures ∙ if_false _ (lt-leb _ _ c.if-n-gt6.true) refl

pub returns-then-not-is_positive : goal.returns-then-not-is_positive
returns-then-not-is_positive c =
    let a = c.args in
    let s = c.scale_of-scale in
    c.refused-then-not-is_positive.ensures
    ∙ unscaled a.n a.m a.rhs a.tol s.result c.if-n-gt6.false s.ensures (sym c.is_positive.ensures ∙ c.if-not-is_positive.true)

pub answer-requires : goal.answer-requires
answer-requires c =
    let a = c.args in
    let s = c.scale_of-scale in
    sized_by_scale a.n a.m s.result c.if-n-gt6.false s.ensures (sym c.is_positive.ensures ∙ c.if-not-is_positive.false)

pub returns : goal.returns
returns c = let g = c.well_formed in
    let a = c.args in
    let s = c.scale_of-scale in
    let six = c.if-n-gt6.false in
    let test = sym c.is_positive.ensures ∙ c.if-not-is_positive.false in
    c.answer.ensures
    ∙ answered a.n a.m a.rhs (a.tol *f s.result) (sized_by_scale a.n a.m s.result six s.ensures test) g.0.1.0.1 g.1.0.1.0.1 c.place.result c.place.ensures
    ∙ scaled a.n a.m a.rhs a.tol s.result six s.ensures test
