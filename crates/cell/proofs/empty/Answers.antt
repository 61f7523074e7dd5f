-- `cell::empty` meets its contract. Assumes nothing.
use mathlib.Core.Path.{◌≡◌, sym, ap, ap₂, ◌∙◌}
use mathlib.Core.List.{[]}
use native.Mathlib.Omega.{arith}
use Rattle.laws.specs.Floats.{◌*f◌}
use Rattle.cell.specs.declared.Tried.{Tried}
use Rattle.faces.specs.declared.Face.{Face}
use Rattle.faces.specs.Faces.{face_of, face_at}
use Rattle.cell.specs.Cell.{Problem, no_try, tried_of, try_of, face_updates, updates_of, pick_of}
use Rattle.cell.specs.Shared.{system_answer}
use Rattle.cell.specs.Inner.{goal_of, problem_with}
use Rattle.cell.proofs.Laws.{try_under, try_none, try_first, work_under, work_none, scale_empty}
use Rattle.cell.proofs.Defaults.{empty_face, none_tried}
use Rattle.cell.proofs.Work.{work_first}
use Rattle.faces.proofs.Orders.{fit_order}
use Rattle.cell.proofs.empty.Goals as goal

-- the empty face's updates are those of the first face
alone : (p : Problem) {f : Face} → f ≡ face_at p.u p.n 0 → face_updates p f ≡ updates_of p 1
alone p e = ap (face_updates p) e ∙ sym (work_first p)

pub returns-then-not-is_positive : goal.returns-then-not-is_positive
returns-then-not-is_positive c = let s = c.args.c.now in
    let o = goal_of c.args.d.now in
    let p = problem_with s in
    let e = scale_empty s.b s.g ∙ sym s.scaled in
    let no = sym c.is_positive.ensures ∙ c.if-not-is_positive.true in (
      none_tried c.default.result.best c.default.ensures.0 ∙ sym (try_none s.b s.g s.h s.pivot s.scale s.slack (face_of []) (omega arith) e o no) ∙ ap (try_of o p) (sym fit_order.first),
      c.default.ensures.1 ∙ sym (work_none s.b s.g s.h s.pivot s.scale s.slack (face_of []) (omega arith) e no) ∙ alone p (sym fit_order.first),
    )

pub returns : goal.returns
returns c = let s = c.args.c.now in
    let o = goal_of c.args.d.now in
    let p = problem_with s in
    let limit = s.pivot *f s.scale in
    let e = scale_empty s.b s.g ∙ sym s.scaled in
    let yes = sym c.is_positive.ensures ∙ c.if-not-is_positive.false in
    let none = none_tried c.default-3.result c.default-3.ensures in
    let f = empty_face c.default-2.result c.default-2.ensures in
    let r = c.try_face.ensures in (
      r.best
          ∙ ap₂ (λ (f : Face) (t : Tried). pick_of (tried_of o p f (system_answer s.b s.g s.h limit f)) t) f none
          ∙ sym (ap (λ (t : Tried). pick_of t no_try) (try_under s.b s.g s.h s.pivot s.scale s.slack (face_of []) (omega arith) e o yes))
          ∙ try_first o p (face_of [])
          ∙ ap (try_of o p) (sym fit_order.first),
      work_under s.b s.g s.h s.pivot s.scale s.slack (face_of []) (omega arith) e yes (r.work ∙ ap (λ (f : Face). (system_answer s.b s.g s.h limit f).updates) f) ∙ alone p (sym fit_order.first),
    )
