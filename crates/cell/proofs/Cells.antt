-- What holds of a cell, whatever its problem: it tries one face or all; where it yields something the objective is finite, no face that it tried and that qualifies has a smaller one,
-- it is one of the faces tried, and of equal ones the first. Assumes nothing.
use mathlib.Core.Path.{◌≡◌, refl, sym, ap, subst, ◌∙◌}
use mathlib.Core.Logic.{◌⊎◌, inl, inr}
use mathlib.Core.Bool.{Bool, true, false, not, ◌&&◌, ◌||◌, cond}
use mathlib.Core.List.{List}
use Prim.Native.Nat.{ℕ, ◌+◌, ◌<◌}
use native.Mathlib.Omega.{arith}
use lib.Dec.{T}
use lib.Ieee.{Float, lt, le}
use Rattle.laws.specs.Floats.{finite}
use Rattle.laws.proofs.Choices.{cond_ind}
use Rattle.laws.proofs.Floats.{finite_no_nan}
use Rattle.laws.proofs.Loops.{for_ind, below_next}
use Rattle.laws.proofs.Better as Better
use Rattle.laws.proofs.Better.{taken_new, taken_old}
use Rattle.laws.proofs.Order.{lt_le_trans, lt_not_self, lt_or}
use Rattle.cell.specs.declared.Model.{Model}
use Rattle.cell.specs.declared.Limits.{Limits}
use Rattle.cell.specs.declared.Tried.{Tried}
use Rattle.cell.specs.declared.Cell.{Cell}
use Rattle.faces.specs.Faces.{face_at}
use Rattle.cell.specs.Cell.{Problem, no_try, try_of, updates_of, pick_of, best_of, cell_from, chosen_from, chosen_of, posed_of, fit_model, cell_of}
use Rattle.cell.specs.Choice.{goal_at, problem_at, face_tried, Beats, First}
use Rattle.cell.proofs.Laws.{try_ind}

-- ---- the better of two

-- b is as good as t: where t qualifies, b does too, and t's objective is not below b's
abbrev pub AsGood : Tried → Tried → Type 0
AsGood = Better.AsGood (λ (t : Tried). t.some) (λ (t : Tried). t.objective)

abbrev Fine : Tried → Type 0
Fine t = T t.some → finite t.objective ≡ true

pick_new : (t b : Tried) → AsGood (pick_of t b) t
unfolding pick_of
pick_new = taken_new (λ (t : Tried). t.some) (λ (t : Tried). t.objective)

pick_old : (t b x : Tried) → AsGood b x → AsGood (pick_of t b) x
unfolding pick_of
pick_old = taken_old (λ (t : Tried). t.some) (λ (t : Tried). t.objective)

at_most : (b x : Tried) → Fine b → Fine x → AsGood b x → T b.some → T x.some → T (le b.objective x.objective)
at_most b x fb fx g p q = go (le b.objective x.objective) (lt_or b.objective x.objective (finite_no_nan _ (fb p)) (finite_no_nan _ (fx q)))
  where
    go : (t : Bool) → (T (not t) → T (lt x.objective b.objective)) → T t
    go true h = tt
    go false h = absurd (g.least q (h tt))

-- ---- the best of any answers in turn

module _ (f : ℕ → Tried) (fine : (t : ℕ) → Fine (f t)) where
  -- b is answer number t, below k, and the qualifying ones before it have larger objectives
  pub record FirstAt (k : ℕ) (b : Tried) (t : ℕ) : Type 0 where
    pub below : t < k
    pub is : b ≡ f t
    pub earlier : (s : ℕ) → s < t → T (f s).some → T (lt (f t).objective (f s).objective)

  record Leads (k : ℕ) (b : Tried) : Type 0 where
    as_good : (s : ℕ) → s < k → AsGood b (f s)
    first : T b.some → (t : ℕ) × FirstAt k b t

  step : (j : ℕ) (b : Tried) → Leads j b → Leads (j + 1) (pick_of (f j) b)
  unfolding pick_of
  step j b L = record { as_good = all; first = go (f j).some b.some (lt (f j).objective b.objective) refl refl refl }
    where
      all : (s : ℕ) → s < j + 1 → AsGood (pick_of (f j) b) (f s)
      all = below_next (λ (s : ℕ). AsGood (pick_of (f j) b) (f s)) j (λ s h. pick_old (f j) b (f s) (L.as_good s h)) (pick_new (f j) b)

      stays : T b.some → (t : ℕ) × FirstAt (j + 1) b t
      stays h =
          let w = L.first h in
          (w.0, record { below = omega (arith, w.1.below); is = w.1.is; earlier = w.1.earlier })

      fine_b : Fine b
      fine_b h = let w = L.first h in ap (λ (t : Tried). finite t.objective) w.1.is ∙ fine w.0 (ap_some w.1.is h)
        where
          ap_some : {x y : Tried} → x ≡ y → T x.some → T y.some
          ap_some e h = subst (λ (t : Tried). T t.some) e h

      go : (x y z : Bool) → (f j).some ≡ x → b.some ≡ y → lt (f j).objective b.objective ≡ z
          → T (cond (x && (not y || z)) (f j) b).some → (t : ℕ) × FirstAt (j + 1) (cond (x && (not y || z)) (f j) b) t
      go false y z p q r h = stays h
      go true true false p q r h = stays h
      go true false z p q r h =
          (j, record { below = omega arith; is = refl; earlier = λ s l k. absurd (rw q at ((L.as_good s l).has k)) })
      go true true true p q r h = (
        j,
        record {
          below = omega arith;
          is = refl;
          earlier = λ s l k. lt_le_trans (f j).objective b.objective (f s).objective (rw r tt) (at_most b (f s) fine_b (fine s) (L.as_good s l) (rw q tt) k);
        },
      )

-- ---- a cell over any problem

module _ (o : List Float → Float) (p : Problem) (count : ℕ) where
  abbrev tried : ℕ → Tried
  tried t = try_of o p (face_at p.u p.n t)

  -- the two cells that it comes to
  abbrev empty_only : Cell
  empty_only = cell_from (tried 0) 1 (updates_of p 1)

  abbrev all_tried : Cell
  all_tried = cell_from (best_of o p count) count (updates_of p count)

  tried_fine : (t : ℕ) → Fine (tried t)
  tried_fine t = try_ind Fine o p (face_at p.u p.n t) (λ h. absurd h) (λ x v e h. e)

  best_leads : Leads tried tried_fine count (best_of o p count)
  unfolding best_of
  best_leads =
      for_ind _ (Leads tried tried_fine) count (λ j b l L. step tried tried_fine j b L) no_try (record { as_good = λ s l. absurd (omega arith); first = λ h. absurd h })

  best_fine : Fine (best_of o p count)
  best_fine h = let w = best_leads.first h in ap (λ (t : Tried). finite t.objective) w.1.is ∙ tried_fine w.0 (subst (λ (t : Tried). T t.some) w.1.is h)

  -- a cell tries one face or all
  pub chosen_faces : ((chosen_of o p count).faces ≡ 1) ⊎ ((chosen_of o p count).faces ≡ count)
  unfolding chosen_of chosen_from cell_from
  chosen_faces = cond_ind (λ (c : Cell). (c.faces ≡ 1) ⊎ (c.faces ≡ count)) (tried 0).some (inl refl) (inr refl)

  -- a cell that has a face has a finite objective
  pub chosen_finite : T (chosen_of o p count).some → finite (chosen_of o p count).objective ≡ true
  unfolding chosen_of chosen_from cell_from
  chosen_finite = cond_ind (λ (c : Cell). T c.some → finite c.objective ≡ true) (tried 0).some (tried_fine 0) best_fine

  -- no face that the cell tried is better than the cell
  pub chosen_least : (t : ℕ) → t < (chosen_of o p count).faces → Beats tried (chosen_of o p count) t
  unfolding chosen_of chosen_from cell_from
  chosen_least = go (tried 0).some refl
    where
      only : (t : ℕ) → t ≡ 0 → (tried 0).some ≡ true → Beats tried empty_only t
      only t e s =
          subst (Beats tried empty_only) (sym e) (record { has = λ h. h; least = λ h. lt_not_self (tried 0).objective })

      go : (b : Bool) → (tried 0).some ≡ b → (t : ℕ) → t < (cond b empty_only all_tried).faces → Beats tried (cond b empty_only all_tried) t
      go true e t l = only t (omega arith) e
      go false e t l = let g = best_leads.as_good t l in record { has = g.has; least = g.least }

  -- a cell that has a face is one of those it tried, and of equal ones the first
  pub chosen_first : T (chosen_of o p count).some → (t : ℕ) × First tried (chosen_of o p count) t
  unfolding chosen_of chosen_from cell_from
  chosen_first = go (tried 0).some
    where
      go : (b : Bool) → T (cond b empty_only all_tried).some → (t : ℕ) × First tried (cond b empty_only all_tried) t
      go true h = (0, record { below = omega arith; qualifies = h; is = refl; earlier = λ s l. absurd (omega arith) })
      go false h =
          let w = best_leads.first h in
          (w.0, record { below = w.1.below; qualifies = subst (λ (b : Tried). T b.some) w.1.is h; is = ap (λ (b : Tried). cell_from b count (updates_of p count)) w.1.is; earlier = w.1.earlier })

-- ---- the cell of a model

module _ (k : Model) (ks ws weights : List Float) (l : Limits) (m sigma : Float) where
  abbrev goal : List Float → Float
  goal = goal_at ks ws weights m sigma

  abbrev stated : Problem
  stated = problem_at k ks ws weights l m sigma

  pub cell_faces : ((cell_of k ks ws weights l m sigma).faces ≡ 1) ⊎ ((cell_of k ks ws weights l m sigma).faces ≡ k.faces)
  unfolding cell_of posed_of
  cell_faces = chosen_faces goal stated k.faces

  pub cell_finite : T (cell_of k ks ws weights l m sigma).some → finite (cell_of k ks ws weights l m sigma).objective ≡ true
  unfolding cell_of posed_of
  cell_finite = chosen_finite goal stated k.faces

  pub cell_least : (t : ℕ) → t < (cell_of k ks ws weights l m sigma).faces → Beats (face_tried k ks ws weights l m sigma) (cell_of k ks ws weights l m sigma) t
  unfolding cell_of posed_of face_tried
  cell_least = chosen_least goal stated k.faces

  pub cell_first : T (cell_of k ks ws weights l m sigma).some → (t : ℕ) × First (face_tried k ks ws weights l m sigma) (cell_of k ks ws weights l m sigma) t
  unfolding cell_of posed_of face_tried
  cell_first = chosen_first goal stated k.faces

-- the fit: 1 or 64
pub fit_faces : (ks ws weights : List Float) (l : Limits) (m sigma : Float) → ((cell_of fit_model ks ws weights l m sigma).faces ≡ 1) ⊎ ((cell_of fit_model ks ws weights l m sigma).faces ≡ 64)
fit_faces ks ws weights l m sigma = cell_faces fit_model ks ws weights l m sigma
