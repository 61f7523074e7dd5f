-- What a cell chooses from: its faces as they are tried, and when it is the best of them. Definitions only.
-- docs/METHOD.md, 'One cell: every face of the polytope'.
use Rattle.std.specs.Prelude.{◌≡◌, List, ℕ, ◌<◌, T, Float}
use Rattle.std.specs.Float.Ieee.{lt}
use Rattle.cell.specs.declared.Model.{Model}
use Rattle.cell.specs.declared.Limits.{Limits}
use Rattle.cell.specs.declared.Tried.{Tried}
use Rattle.cell.specs.declared.Cell.{Cell}
use Rattle.faces.specs.Faces.{face_at}
use Rattle.cell.specs.Least.{y_of, h_of, normal_equations, objective_of}
use Rattle.cell.specs.Cell.{Problem, try_of, face_updates, cell_from, problem_of}

-- the objective of the cell (m, sigma), over observations k, w and weights
abbrev pub goal_at : List Float → List Float → List Float → Float → Float → List Float → Float
goal_at ks ws weights m sigma = objective_of (y_of ks m sigma) (λ i. h_of (y_of ks m sigma i)) ws weights

-- its problem, in a model
abbrev pub problem_at : Model → List Float → List Float → List Float → Limits → Float → Float → Problem
problem_at k ks ws weights l m sigma = problem_of k (normal_equations (y_of ks m sigma) (λ i. h_of (y_of ks m sigma i)) ws weights) sigma l

-- face t of it, tried: whether it qualifies (`some`), its objective and its x
unfoldable pub face_tried : Model → List Float → List Float → List Float → Limits → Float → Float → ℕ → Tried
face_tried k ks ws weights l m sigma t =
    let p = problem_at k ks ws weights l m sigma in
    try_of (goal_at ks ws weights m sigma) p (face_at p.u p.n t)

-- and how many entries its elimination updates
unfoldable pub updates_at : Model → List Float → List Float → List Float → Limits → Float → Float → ℕ → ℕ
updates_at k ks ws weights l m sigma t =
    let p = problem_at k ks ws weights l m sigma in
    face_updates p (face_at p.u p.n t)

-- the cell c is as good as face t of the faces g: where that face qualifies, c has one, and the face's objective is not smaller
pub record Beats (g : ℕ → Tried) (c : Cell) (t : ℕ) : Type 0 where
  pub has : T (g t).some → T c.some
  pub least : T (g t).some → T (lt (g t).objective c.objective) → ⊥

-- the cell c is face t of the faces g, one that it tried and that qualifies, and the qualifying ones before it have larger objectives
pub record First (g : ℕ → Tried) (c : Cell) (t : ℕ) : Type 0 where
  pub below : t < c.faces
  pub qualifies : T (g t).some
  pub is : c ≡ cell_from (g t) c.faces c.updates
  pub earlier : (s : ℕ) → s < t → T (g s).some → T (lt (g t).objective (g s).objective)
