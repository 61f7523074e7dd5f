-- `cell::chosen` meets its contract. Assumes nothing.
use mathlib.Core.Path.{ap, ap₂, ◌∙◌}
use Prim.Native.Nat.{ℕ}
use Rattle.laws.proofs.Choices.{if_true, if_false}
use Rattle.cell.specs.declared.Tried.{Tried}
use Rattle.cell.specs.Cell.{cell_from, chosen_from, chosen_of}
use Rattle.cell.specs.Inner.{goal_of, problem_with}
use Rattle.cell.proofs.chosen.Goals as goal

pub returns-then-e : goal.returns-then-e
unfolding chosen_of chosen_from
returns-then-e c = let a = c.args in
    let e = c.empty-e in
    if_true _ c.if-e.true (c.cell_from.ensures ∙ ap (cell_from e.result.best 1) e.ensures.1) ∙ ap (chosen_from (goal_of a.d.now) (problem_with a.c.now) 64) e.ensures.0

pub returns : goal.returns
unfolding chosen_of chosen_from
returns c = let a = c.args in
    if_false _ c.if-e.false (c.cell_from-2.ensures ∙ ap₂ (λ (t : Tried) (u : ℕ). cell_from t 64 u) c.best-all.ensures.0 c.best-all.ensures.1)
    ∙ ap (chosen_from (goal_of a.d.now) (problem_with a.c.now) 64) c.empty-e.ensures.0
