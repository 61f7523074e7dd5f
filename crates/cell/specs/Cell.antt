-- One cell of the search: the weighted least squares over the polytope at (m, sigma), by trying its faces. `inner` of calibrate.rs.
-- Every operation is rounded once, in the order written. Definitions only.
-- docs/METHOD.md, 'One cell: every face of the polytope'.
use Rattle.std.specs.Prelude.{Bool, true, false, not, ◌&&◌, ◌||◌, cond, List, [], ◌∷◌, ℕ, ◌+◌, ◌*◌, eqb, leb, length, set, replicate, Float}
use Rattle.std.specs.Float.Ieee.{lt}
use Rattle.laws.specs.Loop.{for, sum}
use Rattle.laws.specs.Choice.{unless}
use Rattle.laws.specs.Floats.{◌*f◌, +0, at, finite}
use Rattle.solver.specs.Solve.{solve_of}
use Rattle.solver.specs.declared.Solved.{Solved}
use Rattle.faces.specs.declared.Face.{Face}
use Rattle.cell.specs.declared.Model.{Model}
use Rattle.cell.specs.declared.Limits.{Limits}
use Rattle.cell.specs.declared.Normal.{Normal}
use Rattle.cell.specs.declared.Tried.{Tried}
use Rattle.cell.specs.declared.Cell.{Cell}
use Rattle.faces.specs.Faces.{member_of, face_at, face_marks}
use Rattle.polytope.specs.Polytope.{rows_of, bounds_of, spread_of, feasible_of}
use Rattle.cell.specs.Least.{y_of, h_of, normal_equations, base_of, right_of, objective_of}

-- the problem of a cell: u unknowns; n constraints g x <= h; the KKT system of the empty face; the solver's tolerance; the slack
pub record Problem : Type 0 where
  pub u : ℕ
  pub n : ℕ
  pub base : List Float
  pub right : List Float
  pub g : List Float
  pub h : List Float
  pub pivot : Float
  pub slack : Float

abbrev pub problem : ℕ → ℕ → List Float → List Float → List Float → List Float → Float → Float → Problem
problem u n base right g h pivot slack =
    record { u = u; n = n; base = base; right = right; g = g; h = h; pivot = pivot; slack = slack }

-- ---- the KKT system of a face: its constraints as further rows and columns, their bounds on the right

-- constraint c as row and column r of the matrix
unfoldable pub slot_of : List Float → ℕ → ℕ → ℕ → List Float → List Float
slot_of g u c r m = for 0 u (λ j m. set (set m (r * 6 + j) (at g (c * 3 + j))) (j * 6 + r) (at g (c * 3 + j))) m

unfoldable pub kkt_of : List Float → List Float → ℕ → Face → List Float
kkt_of base g u f = for 0 f.size (λ slot m. slot_of g u (member_of f slot) (u + slot) m) base

unfoldable pub rhs_of : List Float → List Float → ℕ → Face → List Float
rhs_of right h u f = for 0 f.size (λ slot t. set t (u + slot) (at h (member_of f slot))) right

unfoldable pub solution_of : List Float → List Float → List Float → List Float → ℕ → Float → Face → Solved
solution_of base right g h u pivot f = solve_of (u + f.size) (kkt_of base g u f) (rhs_of right h u f) pivot

-- x = (a, d, c): the first three of the solution
abbrev pub widened : List Float → List Float
widened x = at x 0 ∷ at x 1 ∷ at x 2 ∷ []

-- ---- a face qualifies when its system is solved, its x meets every constraint within the slack, and its objective o is finite

abbrev pub no_try : Tried
no_try = record { some = false; objective = +0; x = +0 ∷ +0 ∷ +0 ∷ []; face = record { size = 0; a = 0; b = 0; c = 0 } }

unfoldable pub valued_of : Face → List Float → Float → Tried
valued_of f x v = unless (finite v) no_try (record { some = true; objective = v; x = x; face = f })

unfoldable pub met_of : (List Float → Float) → Problem → Face → List Float → Tried
met_of o p f x = unless (feasible_of p.g p.h p.n p.slack x) no_try (valued_of f x (o x))

unfoldable pub tried_of : (List Float → Float) → Problem → Face → Solved → Tried
tried_of o p f s = unless s.ok no_try (met_of o p f (widened s.x))

unfoldable pub try_of : (List Float → Float) → Problem → Face → Tried
try_of o p f = tried_of o p f (solution_of p.base p.right p.g p.h p.u p.pivot f)

-- ---- the work: how many entries the elimination of a face's system updates, solved or not

abbrev pub face_updates : Problem → Face → ℕ
face_updates p f = (solution_of p.base p.right p.g p.h p.u p.pivot f).updates

-- of the first `count` faces together
unfoldable pub updates_of : Problem → ℕ → ℕ
updates_of p count = sum count (λ t. face_updates p (face_at p.u p.n t))

-- ---- the best of the faces, in their order

-- the smaller objective wins, the earlier face on a tie
abbrev pub wins : Tried → Tried → Bool
wins t best = t.some && (not best.some || lt t.objective best.objective)

unfoldable pub pick_of : Tried → Tried → Tried
pick_of t best = cond (wins t best) t best

unfoldable pub best_of : (List Float → Float) → Problem → ℕ → Tried
best_of o p count = for 0 count (λ t best. pick_of (try_of o p (face_at p.u p.n t)) best) no_try

unfoldable pub cell_from : Tried → ℕ → ℕ → Cell
cell_from t faces updates = record { some = t.some; objective = t.objective; x = t.x; active = face_marks t.face; faces = faces; updates = updates }

-- where the empty face, tried with the answer e, qualifies, only it is tried; else all are, the empty one not a second time
unfoldable pub chosen_from : (List Float → Float) → Problem → ℕ → Tried → Cell
chosen_from o p count e = cond e.some (cell_from e 1 (updates_of p 1)) (cell_from (best_of o p count) count (updates_of p count))

unfoldable pub chosen_of : (List Float → Float) → Problem → ℕ → Cell
chosen_of o p count = chosen_from o p count (try_of o p (face_at p.u p.n 0))

-- ---- the cell

-- the fit: unknowns a, d, c; seven constraints; the 64 sets of at most three of them. The one model that contracts name
abbrev pub fit_model : Model
fit_model = record { u = 3; n = 7; faces = 64 }

-- the problem of a cell: a model gives its sizes only; block, rows and bounds are those of a, d and c whatever the model, so one with other unknowns needs a problem of its own
unfoldable pub problem_of : Model → Normal → Float → Limits → Problem
problem_of k n sigma l =
    let h = bounds_of sigma l.a_min l.a_max in
    problem k.u k.n (base_of n) (right_of n) rows_of h l.pivot_tolerance (l.feasibility_tolerance *f spread_of h)

unfoldable pub posed_of : Model → (ℕ → Float) → (ℕ → Float) → List Float → List Float → Limits → Float → Cell
posed_of k y h ws weights l sigma = chosen_of (objective_of y h ws weights) (problem_of k (normal_equations y h ws weights) sigma l) k.faces

-- the cell (m, sigma) of a model, over as many k, w and weights
unfoldable pub cell_of : Model → List Float → List Float → List Float → Limits → Float → Float → Cell
cell_of k ks ws weights l m sigma = posed_of k (y_of ks m sigma) (λ i. h_of (y_of ks m sigma i)) ws weights l sigma

-- at most 256 observations, and as many w and weights as k
abbrev pub in_range : List Float → List Float → List Float → Bool
in_range ks ws weights = leb (length ks) 256 && (eqb (length ws) (length ks) && eqb (length weights) (length ks))

abbrev pub no_cell : Cell
no_cell = record { some = false; objective = +0; x = +0 ∷ +0 ∷ +0 ∷ []; active = replicate 7 false; faces = 0; updates = 0 }

-- `inner`; observations out of range give no face, and none is tried
unfoldable pub inner_of : List Float → List Float → List Float → Limits → Float → Float → Cell
inner_of ks ws weights l m sigma = unless (in_range ks ws weights) no_cell (cell_of fit_model ks ws weights l m sigma)
