-- `cell::try_face` meets its contract. Assumes nothing.
use mathlib.Core.Path.{refl, sym, ap, ◌∙◌}
use mathlib.Core.List.{List}
use lib.Ieee.{Float}
use Rattle.std.specs.Prelude.{Option}
use Rattle.cell.specs.declared.Tried.{Tried}
use Rattle.cell.specs.Cell.{no_try, pick_of}
use Rattle.cell.specs.Inner.{goal_of, point_tried}
use Rattle.cell.proofs.Laws.{passed_over}
use Rattle.cell.proofs.try_face.Goals as goal

pub returns-in-None-clause-best : goal.returns-in-None-clause-best
returns-in-None-clause-best c = let a = c.args in
    let o = goal_of a.d.now in
    passed_over no_try a.best refl ∙ sym (ap (λ (t : Tried). pick_of t a.best) (c.candidate-e.ensures.tried o ∙ ap (λ (x : Option (List Float)). point_tried o a.f x) c.in-None.is))
