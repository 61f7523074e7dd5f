-- `solver::rows::eliminate` meets its contract: what the columns that are left make of the present rows is the whole. Assumes nothing.
use mathlib.Core.Path.{◌∙◌}
use Rattle.std.proofs.lemmas.Result.{err_from_is_err_and}
use Rattle.solver.proofs.Steps.{begun, over, stays}
use Rattle.solver.proofs.rows.eliminate.Goals as goal

pub returns-in_err-left : goal.returns-in_err-left
returns-in_err-left c =
    let p = err_from_is_err_and c.from_residual.result c.from_residual.ensures.1 in
    rw (p.1, p.2) (stays 1 _ _ _ _ ∙ c.in_err-left.ensures.rows ∙ begun _ _ _ c.requires.1 c.most.ensures)

pub returns-in_err-left-2 : goal.returns-in_err-left-2
returns-in_err-left-2 c =
    let p = err_from_is_err_and c.from_residual-in_err-left-2.result c.from_residual-in_err-left-2.ensures.1 in
    rw (p.1, p.2) (stays 2 _ _ _ _ ∙ c.in_err-left-2.ensures.rows ∙ c.in_ok-left.ensures.rows ∙ begun _ _ _ c.requires.1 c.most.ensures)

pub returns-in_err-left-3 : goal.returns-in_err-left-3
returns-in_err-left-3 c =
    let p = err_from_is_err_and c.from_residual-in_err-left-3.result c.from_residual-in_err-left-3.ensures.1 in
    rw (p.1, p.2) (stays 3 _ _ _ _ ∙ c.in_err-left-3.ensures.rows ∙ c.in_ok-left-2.ensures.rows ∙ c.in_ok-left.ensures.rows ∙ begun _ _ _ c.requires.1 c.most.ensures)

pub returns-in_err-left-4 : goal.returns-in_err-left-4
returns-in_err-left-4 c =
    let p = err_from_is_err_and c.from_residual-in_err-left-4.result c.from_residual-in_err-left-4.ensures.1 in
    rw (p.1, p.2) (stays 4 _ _ _ _ ∙ c.in_err-left-4.ensures.rows ∙ c.in_ok-left-3.ensures.rows ∙ c.in_ok-left-2.ensures.rows ∙ c.in_ok-left.ensures.rows ∙ begun _ _ _ c.requires.1 c.most.ensures)

pub returns-in_err-left-5 : goal.returns-in_err-left-5
returns-in_err-left-5 c =
    let p = err_from_is_err_and c.from_residual-in_err-left-5.result c.from_residual-in_err-left-5.ensures.1 in
    rw (p.1, p.2) (stays 5 _ _ _ _ ∙ c.in_err-left-5.ensures.rows ∙ c.in_ok-left-4.ensures.rows ∙ c.in_ok-left-3.ensures.rows ∙ c.in_ok-left-2.ensures.rows ∙ c.in_ok-left.ensures.rows ∙ begun _ _ _ c.requires.1 c.most.ensures)

pub returns : goal.returns
returns c =
    over _ c.args.limit c.column-6.result c.column-6.new.m
    ∙ c.column-6.ensures.rows ∙ c.in_ok-left-5.ensures.rows ∙ c.in_ok-left-4.ensures.rows ∙ c.in_ok-left-3.ensures.rows ∙ c.in_ok-left-2.ensures.rows ∙ c.in_ok-left.ensures.rows ∙ begun _ _ _ c.requires.1 c.most.ensures
