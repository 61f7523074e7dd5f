-- `cell::best` meets its contract. Assumes nothing.
use mathlib.Core.Path.{◌≡◌, refl, sym, ap, subst, ◌∙◌}
use mathlib.Core.Bool.{false, cond}
use Prim.Native.Nat.{ℕ, ◌+◌, ◌<◌}
use native.Mathlib.Numerals.{add-one-le}
use native.Mathlib.Nat.{add-zero}
use native.Mathlib.Omega.{arith}
use lib.Ieee.{Float, lt}
use Rattle.laws.specs.Floats.{◌*f◌, one}
use Rattle.laws.proofs.Loops.{again, ended}
use Rattle.solver.specs.Solve.{scale_of}
use Rattle.cell.specs.declared.Tried.{Tried}
use Rattle.faces.specs.Faces.{face_at}
use Rattle.cell.specs.Cell.{kkt_of, try_of, face_updates, updates_of, pick_of, best_of}
use Rattle.cell.specs.Shared.{block_of, Scaled}
use Rattle.cell.specs.Inner.{goal_of, problem_with}
use Rattle.cell.proofs.Laws.{passed_over, one_more, one_back, best_none, zero_or_more, scale_same, try_under, try_none, work_under, work_none}
use Rattle.cell.proofs.Defaults.{empty_face, none_tried}
use Rattle.cell.proofs.Work.{work_next, work_still, one_system, some_faces}
use Rattle.faces.proofs.Orders.{fit_order, stepped, good_at}
use Rattle.cell.proofs.best.Goals as goal

pub returns-then-not-is_positive : goal.returns-then-not-is_positive
returns-then-not-is_positive c = let s = c.args.c.now in
    let o = goal_of c.args.d.now in
    let p = problem_with s in
    let scale = c.pick-scale.result in
    let no = sym c.is_positive.ensures ∙ c.if-not-is_positive.true in
    let other : Scaled s.b scale = subst (Scaled s.b) (sym (c.pick-scale.ensures ∙ ap (λ (s : Float). cond (lt s one) one s) s.scaled)) s.others in
    let same : (t : ℕ) → 0 < t → t < 64 → scale_of (3 + (face_at 3 7 t).size) (kkt_of (block_of s.b) s.g 3 (face_at 3 7 t)) ≡ scale = λ t l m. scale_same s.b s.g (face_at 3 7 t) scale t refl s.rows other l m in
    let none : (t : ℕ) → 0 < t → t < 64 → (try_of o p (face_at 3 7 t)).some ≡ false =
    λ t l m. ap (λ (t : Tried). t.some) (try_none s.b s.g s.h s.pivot scale s.slack (face_at 3 7 t) (fit_order.good t m).size (same t l m) o no)
    in
    let rest = work_still p 1 63 (λ t l m. work_none s.b s.g s.h s.pivot scale s.slack (face_at 3 7 t) (fit_order.good t m).size (same t l m) no) in
    (none_tried _ c.default-best.ensures ∙ best_none o p 64 (zero_or_more (λ (t : ℕ). t < 64 → (try_of o p (face_at 3 7 t)).some ≡ false) (λ m. c.requires.empty_fails) none), c.requires.empty_counted ∙ sym rest)

pub loop-t-init : goal.loop-t-init
unfolding best_of
loop-t-init c = (
  one_more 0,
  omega arith,
  empty_face _ c.default-f.ensures ∙ sym fit_order.first,
  again _ 0 64 (omega arith) (none_tried _ c.default-best.ensures ∙ passed_over _ _ c.requires.empty_fails) refl,
  add-zero _ ∙ c.requires.empty_counted,
)

pub try_face-e-requires : goal.try_face-e-requires
try_face-e-requires c = let l = c.loop-t in
    let e = stepped fit_order l.t l.f c.next-f.result l.invariant.0 c.loop-t-test.true l.invariant.2 c.next-f.ensures in
    good_at fit_order l.t c.next-f.result c.loop-t-test.true e

-- what was counted so far is at most 70 a face
pub overflow_add-updates : goal.overflow_add-updates
overflow_add-updates c = let l = c.loop-t in
    let s = c.args.c.now in
    let e = stepped fit_order l.t l.f c.next-f.result l.invariant.0 c.loop-t-test.true l.invariant.2 c.next-f.ensures in
    let size = (good_at fit_order l.t c.next-f.result c.loop-t-test.true e).size in
    let one = one_system s.b s.g s.h s.pivot s.slack (s.pivot *f c.pick-scale.result) c.next-f.result size in
    let all = some_faces s.b s.g s.h s.pivot s.slack l.t l.invariant.1 in
    omega (arith, one, all, l.invariant.1, l.invariant.4, c.try_face-e.ensures.work)

pub loop-t-preserved : goal.loop-t-preserved
loop-t-preserved c = let l = c.loop-t in
    let s = c.args.c.now in
    let o = goal_of c.args.d.now in
    let p = problem_with s in
    let scale = c.pick-scale.result in
    let e = stepped fit_order l.t l.f c.next-f.result l.invariant.0 c.loop-t-test.true l.invariant.2 c.next-f.ensures in
    let f = e ∙ ap (face_at 3 7) (one_back l.t) in
    let yes = sym c.is_positive.ensures ∙ c.if-not-is_positive.false in
    let other : Scaled s.b scale = subst (Scaled s.b) (sym (c.pick-scale.ensures ∙ ap (λ (s : Float). cond (lt s one) one s) s.scaled)) s.others in
    let same = scale_same s.b s.g c.next-f.result scale l.t e s.rows other l.invariant.0 c.loop-t-test.true in
    let size = (good_at fit_order l.t c.next-f.result c.loop-t-test.true e).size in
    let tried = sym (try_under s.b s.g s.h s.pivot scale s.slack c.next-f.result size same o yes) ∙ ap (try_of o p) e in
    let one = work_under s.b s.g s.h s.pivot scale s.slack c.next-f.result size same yes c.try_face-e.ensures.work ∙ ap (face_updates p) e in
    let more = work_next p l.t in
    (one_more l.t, add-one-le c.loop-t-test.true, f, again _ _ _ c.loop-t-test.true (c.try_face-e.ensures.best ∙ ap (λ (t : Tried). pick_of t l.best) tried) l.invariant.3, omega (arith, one, more, l.invariant.4))

pub overflow_add-result : goal.overflow_add-result
overflow_add-result c = let l = c.loop-t in
    let s = c.args.c.now in
    let all = some_faces s.b s.g s.h s.pivot s.slack l.t l.invariant.1 in
    omega (arith, all, l.invariant.1, l.invariant.4)

pub returns : goal.returns
returns c = let l = c.loop-t in
    let e : l.t ≡ 64 = omega (arith, c.loop-t-test.false, l.invariant.1) in
    (ended _ _ _ c.loop-t-test.false l.invariant.3, l.invariant.4 ∙ ap (updates_of _) e)
