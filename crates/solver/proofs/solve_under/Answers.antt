-- `solver::solve_under` meets its contract. Assumes nothing.
use mathlib.Core.Path.{refl, ◌∙◌}
use Rattle.laws.proofs.Choices.{if_true, if_false}
use Rattle.solver.specs.Solve.{refused, under_of}
use Rattle.solver.proofs.Whole.{sized, answered}
use Rattle.solver.proofs.solve_under.Goals as goal

pub returns-then-not-n : goal.returns-then-not-n
unfolding under_of
returns-then-not-n c = c.refused.ensures ∙ if_false _ c.if-not-n.true refl

pub returns : goal.returns
unfolding under_of
returns c = let g = c.well_formed in
    let a = c.args in
    c.answer.ensures ∙ if_true (refused 0) c.if-not-n.false (answered a.n a.m a.rhs a.limit (sized a.n c.if-not-n.false) g.0.1.0.1 g.1.0.1.0.1 c.place.result c.place.ensures)
