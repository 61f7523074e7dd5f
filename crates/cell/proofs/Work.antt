-- How many entries the systems of a cell's faces update: face by face, and at most. Assumes nothing.
use mathlib.Core.Path.{◌≡◌, refl}
use mathlib.Core.Logic.{⊎_elim}
use mathlib.Core.List.{List}
use Prim.Native.Nat.{ℕ, zero, suc, ◌+◌, ◌*◌, ◌≤◌, ◌<◌}
use native.Mathlib.Omega.{arith}
use native.Mathlib.Nat.{zero-add}
use lib.Ieee.{Float}
use Rattle.laws.specs.Loop.{turns, sum}
use Rattle.laws.proofs.Choices.{cond_ind}
use Rattle.laws.proofs.Sums.{sum_next, sum_most, sum_times, sum_still}
use Rattle.solver.proofs.Updates.{cubic, updates_under, updates_most}
use Rattle.faces.specs.declared.Face.{Face}
use Rattle.faces.specs.Faces.{sets_up_to, sets, face_at}
use Rattle.faces.proofs.Orders.{fit_order}
use Rattle.cell.specs.declared.Model.{Model}
use Rattle.cell.specs.declared.Limits.{Limits}
use Rattle.cell.specs.declared.Cell.{Cell}
use Rattle.cell.specs.Cell.{Problem, kkt_of, rhs_of, solution_of, face_updates, updates_of, cell_from, chosen_from, chosen_of, try_of, problem_of, posed_of, fit_model, cell_of}
use Rattle.cell.specs.Choice.{goal_at, problem_at, updates_at}
use Rattle.cell.specs.Shared.{block_of, side_of, problem_in, system_answer}
use Rattle.cell.proofs.Cells.{fit_faces}

-- ---- face by face

pub work_next : (p : Problem) (t : ℕ) → updates_of p (t + 1) ≡ updates_of p t + face_updates p (face_at p.u p.n t)
unfolding updates_of
work_next p t = sum_next t (λ t. face_updates p (face_at p.u p.n t))

pub work_first : (p : Problem) → updates_of p 1 ≡ face_updates p (face_at p.u p.n 0)
unfolding updates_of sum turns
work_first p = zero-add _

-- faces that are refused at once add nothing
pub work_still : (p : Problem) (a k : ℕ) → ((t : ℕ) → a ≤ t → t < a + k → face_updates p (face_at p.u p.n t) ≡ 0) → updates_of p (a + k) ≡ updates_of p a
unfolding updates_of
work_still p a k none = sum_still a k (λ t. face_updates p (face_at p.u p.n t)) none

-- ---- at most

-- a face's system has its unknowns and its constraints
pub face_work : (p : Problem) (f : Face) → 3 * face_updates p f ≤ cubic (p.u + f.size)
unfolding solution_of
face_work p f = updates_most (p.u + f.size) _ _ p.pivot

-- the most that the first `count` faces of u unknowns and n constraints take, three times
abbrev pub thrice : ℕ → ℕ → ℕ → ℕ
thrice u n count = sum count (λ t. cubic (u + (face_at u n t).size))

pub work_most : (p : Problem) (count : ℕ) → 3 * updates_of p count ≤ thrice p.u p.n count
unfolding updates_of
work_most p count = sum_times 3 count (λ t. face_updates p (face_at p.u p.n t)) (λ t. cubic (p.u + (face_at p.u p.n t).size)) (λ t l. face_work p (face_at p.u p.n t))

-- 70 in six unknowns, and no more in fewer
up_to_six : (s : ℕ) → s ≤ 3 → cubic (3 + s) ≤ 210
up_to_six zero l = omega arith
up_to_six (suc zero) l = omega arith
up_to_six (suc (suc zero)) l = omega arith
up_to_six (suc (suc (suc zero))) l = omega arith
up_to_six (suc (suc (suc (suc s)))) l = absurd (omega arith)

-- in a cell of the fit
module _ (b g h : List Float) (pivot slack : Float) where
  pub one_face : (f : Face) → f.size ≤ 3 → face_updates (problem_in b g h pivot slack) f ≤ 70
  one_face f l =
      let m = face_work (problem_in b g h pivot slack) f in
      let c = up_to_six f.size l in
      omega (arith, m, c)

  -- under any limit of the pivots
  pub one_system : (limit : Float) (f : Face) → f.size ≤ 3 → (system_answer b g h limit f).updates ≤ 70
  one_system limit f l =
      let m = updates_under (3 + f.size) (kkt_of (block_of b) g 3 f) (rhs_of (side_of b) h 3 f) limit in
      let c = up_to_six f.size l in
      omega (arith, m, c)

  pub some_faces : (t : ℕ) → t ≤ 64 → updates_of (problem_in b g h pivot slack) t ≤ t * 70
  unfolding updates_of
  some_faces t l = sum_most t 70 (λ t. face_updates (problem_in b g h pivot slack) (face_at 3 7 t)) (λ i m. one_face (face_at 3 7 i) (fit_order.good i (omega arith)).size)

-- ---- a cell

module _ (k : Model) (ks ws weights : List Float) (l : Limits) (m sigma : Float) where
  -- its updates are those of the faces that it tries
  pub cell_work : (cell_of k ks ws weights l m sigma).updates ≡ sum (cell_of k ks ws weights l m sigma).faces (updates_at k ks ws weights l m sigma)
  unfolding cell_of posed_of chosen_of chosen_from cell_from updates_of updates_at
  cell_work =
      cond_ind (λ (c : Cell). c.updates ≡ sum c.faces (updates_at k ks ws weights l m sigma))
      (try_of (goal_at ks ws weights m sigma) p (face_at p.u p.n 0)).some refl refl
    where
      p : Problem
      p = problem_at k ks ws weights l m sigma

-- the most in a cell of the fit: 8 + 7 x 20 + 21 x 40 + 35 x 70
fit_thrice : thrice 3 7 64 ≡ 10314
unfolding sum turns face_at sets_up_to sets
fit_thrice = refl

fit_thrice_one : thrice 3 7 1 ≡ 24
unfolding sum turns face_at sets_up_to sets
fit_thrice_one = refl

pub fit_work : (ks ws weights : List Float) (l : Limits) (m sigma : Float) → (cell_of fit_model ks ws weights l m sigma).updates ≤ 3438
unfolding updates_at updates_of problem_of
fit_work ks ws weights l m sigma =
    rw (cell_work fit_model ks ws weights l m sigma)
    (⊎_elim (λ e. rw e (few 1 (omega (arith, fit_thrice_one)))) (λ e. rw e (few 64 (omega (arith, fit_thrice)))) (fit_faces ks ws weights l m sigma))
  where
    few : (count : ℕ) → thrice 3 7 count ≤ 10314 → sum count (updates_at fit_model ks ws weights l m sigma) ≤ 3438
    few count h = let w = work_most (problem_at fit_model ks ws weights l m sigma) count in omega (arith, w, h)
