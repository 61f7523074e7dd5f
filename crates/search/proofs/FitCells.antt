-- The cells of the fit: at most 64 faces and 3,438 updates whatever they are handed, and, over observations in range, chosen from their faces, 1 or 64 of them. Assumes nothing.
use mathlib.Core.Path.{◌≡◌, refl, subst}
use mathlib.Core.Logic.{◌⊎◌, ⊎_elim}
use mathlib.Core.Bool.{true}
use mathlib.Core.List.{List}
use Prim.Native.Nat.{ℕ, ◌≤◌, ◌<◌}
use native.Mathlib.Omega.{arith}
use lib.Dec.{T}
use lib.Ieee.{Float}
use Rattle.laws.specs.Loop.{sum}
use Rattle.laws.specs.Floats.{finite}
use Rattle.laws.proofs.Choices.{if_true, cond_ind}
use Rattle.exponent.specs.Exp.{exp_of}
use Rattle.cell.specs.declared.Cell.{Cell}
use Rattle.cell.specs.declared.Limits.{Limits}
use Rattle.cell.specs.Cell.{fit_model, in_range, no_cell, cell_of, inner_of}
use Rattle.cell.specs.Choice.{face_tried, updates_at, Beats, First}
use Rattle.cell.proofs.Cells.{fit_faces, cell_finite, cell_least, cell_first}
use Rattle.cell.proofs.Work.{cell_work, fit_work}
use Rattle.search.specs.Promised.{ChosenFrom}
use Rattle.search.specs.Run.{fit_cell, fit_face, fit_updates}

module _ (ks ws weights : List Float) (l : Limits) where
  pub fit_most : (m ls : Float) → (fit_cell ks ws weights l m ls).faces ≤ 64
  unfolding fit_cell inner_of
  fit_most m ls =
      cond_ind (λ (c : Cell). c.faces ≤ 64) (in_range ks ws weights)
      (⊎_elim (λ e. omega (arith, e)) (λ e. omega (arith, e)) (fit_faces ks ws weights l m (exp_of ls))) (omega arith)

  pub fit_few : (m ls : Float) → (fit_cell ks ws weights l m ls).updates ≤ 3438
  unfolding fit_cell inner_of
  fit_few m ls = cond_ind (λ (c : Cell). c.updates ≤ 3438) (in_range ks ws weights) (fit_work ks ws weights l m (exp_of ls)) (omega arith)

  -- observations in range: it is the cell at (m, sigma)
  fit_is : in_range ks ws weights ≡ true → (m ls : Float) → cell_of fit_model ks ws weights l m (exp_of ls) ≡ fit_cell ks ws weights l m ls
  unfolding fit_cell inner_of
  fit_is e m ls = if_true no_cell e refl

  -- what holds of that cell holds of the fit's
  as_fit : in_range ks ws weights ≡ true → (P : Cell → Type 0) (m ls : Float) → P (cell_of fit_model ks ws weights l m (exp_of ls)) → P (fit_cell ks ws weights l m ls)
  as_fit e P m ls = subst P (fit_is e m ls)

  pub fit_chosen : in_range ks ws weights ≡ true → ChosenFrom (fit_cell ks ws weights l) (fit_face ks ws weights l) (fit_updates ks ws weights l) 64 3438
  unfolding fit_face fit_updates
  fit_chosen e =
      record {
        tries = λ m ls. as_fit e (λ (c : Cell). (c.faces ≡ 1) ⊎ (c.faces ≡ 64)) m ls (fit_faces ks ws weights l m (exp_of ls));
        updates = λ m ls. as_fit e (λ (c : Cell). c.updates ≡ sum c.faces (updates_at fit_model ks ws weights l m (exp_of ls))) m ls (cell_work fit_model ks ws weights l m (exp_of ls));
        few = fit_few;
        finite_objective = λ m ls. as_fit e (λ (c : Cell). T c.some → finite c.objective ≡ true) m ls (cell_finite fit_model ks ws weights l m (exp_of ls));
        beats = λ m ls. as_fit e (λ (c : Cell). (t : ℕ) → t < c.faces → Beats (face_tried fit_model ks ws weights l m (exp_of ls)) c t) m ls (cell_least fit_model ks ws weights l m (exp_of ls));
        first = λ m ls. as_fit e (λ (c : Cell). T c.some → (t : ℕ) × First (face_tried fit_model ks ws weights l m (exp_of ls)) c t) m ls (cell_first fit_model ks ws weights l m (exp_of ls));
      }
