-- `cell::posed` meets its contract. Assumes nothing.
use mathlib.Core.Path.{sym, ap, subst, ◌∙◌}
use mathlib.Core.List.{List}
use lib.Ieee.{Float}
use Rattle.cell.specs.Cell.{Problem, chosen_of, posed_of}
use Rattle.cell.specs.Shared.{other_scale, Scaled}
use Rattle.cell.specs.Inner.{goal_of}
use Rattle.cell.proofs.Laws.{posed_is}
use Rattle.cell.proofs.Scaling.{scaled}
use Rattle.cell.proofs.posed.Goals as goal

pub invariant_of-c : goal.invariant_of-c
invariant_of-c c = record {
  rows = c.rows-g.ensures;
  scaled = c.block_scale.ensures;
  others = subst (λ (b : List Float). Scaled b (other_scale b)) (sym c.doubled-b.ensures) (scaled c.normal_equations.result);
}

pub returns : goal.returns
unfolding posed_of
returns c = let a = c.args in
    c.chosen.ensures
    ∙ ap (λ (p : Problem). chosen_of (goal_of a.d.now) p 64)
    (posed_is c.normal_equations.result _ a.sigma a.l c.doubled-b.result c.rows-g.result c.bounds-h.result c.spread.result
    c.normal_equations.ensures c.doubled-b.ensures c.rows-g.ensures c.bounds-h.ensures c.spread.ensures)
