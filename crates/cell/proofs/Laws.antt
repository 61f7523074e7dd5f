-- Laws of the definitions that the functions' proofs and the callers' cite. Assumes nothing.
use mathlib.Core.Path.{◌≡◌, refl, sym, ap, ap₂, fun_ext, ◌∙◌}
use mathlib.Core.Bool.{Bool, true, false, not, ◌&&◌, ◌||◌, cond}
use mathlib.Core.List.{List, []}
use Prim.Native.Nat.{ℕ, zero, suc, ◌+◌, ◌-◌, ◌<◌, ◌≤◌}
use native.Mathlib.Omega.{arith}
use lib.ListN.{length}
use lib.Dec.{leb, ltb}
use lib.Ieee.{Float, nan, lt}
use borrow.Author.Tests.{le-leb, lt-ltb, leb-true, eqb-true}
use Rattle.laws.specs.Loop.{turns}
use Rattle.laws.specs.Choice.{unless}
use Rattle.laws.specs.Floats.{◌+f◌, ◌*f◌, at, finite, positive}
use Rattle.laws.proofs.Choices.{if_true, cond_ind, both}
use Rattle.laws.proofs.Loops.{for_keeps, for_same}
use Rattle.solver.specs.Solve.{refused, scale_of, solved_at_scale, under_of, solve_of}
use Rattle.solver.specs.declared.Solved.{Solved}
use Rattle.faces.specs.declared.Face.{Face}
use Rattle.cell.specs.declared.Model.{Model}
use Rattle.cell.specs.declared.Limits.{Limits}
use Rattle.cell.specs.declared.Normal.{Normal}
use Rattle.cell.specs.declared.Tried.{Tried}
use Rattle.cell.specs.declared.Cell.{Cell}
use Rattle.faces.specs.Faces.{face_of, face_at}
use Rattle.polytope.specs.Polytope.{rows_of, bounds_of, spread_of, feasible_of}
use Rattle.laws.specs.Room.{filled_on}
use Rattle.laws.proofs.Rooms.{filled_at, filled_length}
use Rattle.roots.specs.Hypot.{with_one_of}
use Rattle.cell.specs.Least.{y_of, h_of, with_observation, normal_equations, miss_of, objective_of}
use Rattle.cell.specs.Cell.{Problem, kkt_of, solution_of, widened, no_try, valued_of, met_of, tried_of, try_of, face_updates, pick_of, best_of, chosen_of, problem_of, posed_of, fit_model, cell_of, in_range, no_cell, inner_of}
use Rattle.cell.specs.Lent.{ys_on, hs_on, inner_on}
use Rattle.cell.specs.Shared.{doubled_of, block_of, side_of, problem_in, empty_scale, Scaled, system_answer}

-- ---- the rows of the observations, computed once

pub lengths_in_range : (ys : List Float) (n : ℕ) (hs before : List Float) → n ≤ 256 → hs ≡ with_one_of ys n before → hs ≡ filled_on n (λ i. h_of (at ys i)) before
unfolding with_one_of h_of
lengths_in_range ys n hs before l e = rw (le-leb n 256 l) at e

-- a cell asks of y and h only at the observations
module _ (y z h g : ℕ → Float) (ws weights : List Float) (ys : (i : ℕ) → i < length ws → y i ≡ z i) (hs : (i : ℕ) → i < length ws → h i ≡ g i) where
  normal_same : normal_equations y h ws weights ≡ normal_equations z g ws weights
  unfolding normal_equations
  normal_same = for_same _ _ (length ws) (λ i l s. ap₂ (λ (a b : Float). with_observation s (at weights i) a b (at ws i)) (ys i l) (hs i l)) _

  objective_same : (x : List Float) → objective_of y h ws weights x ≡ objective_of z g ws weights x
  unfolding objective_of
  objective_same x =
      for_same _ _ (length ws) (λ i l s. ap₂ (λ (a b : Float). s +f at weights i *f miss_of x a b (at ws i) *f miss_of x a b (at ws i)) (ys i l) (hs i l)) _

  pub posed_same : (k : Model) (l : Limits) (sigma : Float) → posed_of k y h ws weights l sigma ≡ posed_of k z g ws weights l sigma
  unfolding posed_of
  posed_same k l sigma = ap₂ (λ (o : List Float → Float) (n : Normal). chosen_of o (problem_of k n sigma l) k.faces) (fun_ext objective_same) normal_same

-- the problem as the code puts it together
pub posed_is :
    (m n : Normal) (sigma : Float) (l : Limits) (b g h : List Float) (s : Float)
    → m ≡ n → b ≡ doubled_of m → g ≡ rows_of → h ≡ bounds_of sigma l.a_min l.a_max → s ≡ spread_of h
    → problem_in b g h l.pivot_tolerance (l.feasibility_tolerance *f s) ≡ problem_of fit_model n sigma l
unfolding problem_of
posed_is m n sigma l b g h s e eb eg eh es =
    let tol = l.pivot_tolerance in
    let slack = l.feasibility_tolerance in
    ap (λ (b : List Float). problem_in b g h tol (slack *f s)) (eb ∙ ap doubled_of e)
    ∙ ap (λ (g : List Float). problem_in (doubled_of n) g h tol (slack *f s)) eg
    ∙ ap (λ (s : Float). problem_in (doubled_of n) rows_of h tol (slack *f s)) es
    ∙ ap (λ (h : List Float). problem_in (doubled_of n) rows_of h tol (slack *f spread_of h)) eh

-- ---- a face's point, and what comes of it

-- where the scale is positive, a face's solution is the answer under the limit that it sets; else there is none
module _ (b g h : List Float) (pivot scale slack : Float) (f : Face) (l : f.size ≤ 3) (e : scale_of (3 + f.size) (kkt_of (block_of b) g 3 f) ≡ scale) where
  some : ltb 0 (3 + f.size) ≡ true
  some = lt-ltb 0 (3 + f.size) (omega arith)

  small : leb (3 + f.size) 6 ≡ true
  small = le-leb (3 + f.size) 6 (omega arith)

  solution_under : positive scale ≡ true → solution_of (block_of b) (side_of b) g h 3 pivot f ≡ system_answer b g h (pivot *f scale) f
  unfolding solution_of solve_of solved_at_scale under_of
  solution_under p = rw (some, small, e, p) refl

  solution_none : positive scale ≡ false → solution_of (block_of b) (side_of b) g h 3 pivot f ≡ refused 0
  unfolding solution_of solve_of solved_at_scale
  solution_none p = rw (small, e, p) refl

  -- so are its updates
  pub work_under : positive scale ≡ true → {k : ℕ} → k ≡ (system_answer b g h (pivot *f scale) f).updates → k ≡ face_updates (problem_in b g h pivot slack) f
  work_under p q = q ∙ sym (ap (λ (s : Solved). s.updates) (solution_under p))

  pub work_none : positive scale ≡ false → face_updates (problem_in b g h pivot slack) f ≡ 0
  work_none p = ap (λ (s : Solved). s.updates) (solution_none p)

  module _ (o : List Float → Float) where
    pub try_under : positive scale ≡ true → try_of o (problem_in b g h pivot slack) f ≡ tried_of o (problem_in b g h pivot slack) f (system_answer b g h (pivot *f scale) f)
    unfolding try_of
    try_under p = ap (tried_of o (problem_in b g h pivot slack) f) (solution_under p)

    pub try_none : positive scale ≡ false → try_of o (problem_in b g h pivot slack) f ≡ no_try
    unfolding try_of tried_of
    try_none p = ap (tried_of o (problem_in b g h pivot slack) f) (solution_none p)

-- the empty face has no more than the block, and what every other face has it has as well where it is known by other names
pub scale_empty : (b g : List Float) → scale_of 3 (kkt_of (block_of b) g 3 (face_of [])) ≡ empty_scale b
unfolding kkt_of turns
scale_empty b g = refl

pub scale_same : (b g : List Float) (f : Face) (scale : Float) (t : ℕ) → f ≡ face_at 3 7 t → g ≡ rows_of → Scaled b scale → 0 < t → t < 64 → scale_of (3 + f.size) (kkt_of (block_of b) g 3 f) ≡ scale
scale_same b g f scale t e d h l m = ap₂ (λ (f : Face) (g : List Float). scale_of (3 + f.size) (kkt_of (block_of b) g 3 f)) e d ∙ h t l m

-- a face that is solved and feasible is valued at its point; else there is nothing
module _ (o : List Float → Float) (b g h : List Float) (limit slack : Float) (f : Face) (r s : Solved) (e : r ≡ s) where
  pub met : r.ok ≡ true → (t : Bool) → feasible_of g h 7 slack (widened r.x) ≡ t
      → tried_of o (problem_in b g h limit slack) f s ≡ unless t no_try (valued_of f (widened r.x) (o (widened r.x)))
  unfolding tried_of met_of
  met k t w = rw (← e, k, w) refl

  pub unmet : r.ok ≡ false → tried_of o (problem_in b g h limit slack) f s ≡ no_try
  unfolding tried_of
  unmet k = rw (← e, k) refl

-- the code's one test is the definition's two
pub judge_is : (f : Face) (x : List Float) (v : Float) (b : Tried) → cond (finite v && (not b.some || lt v b.objective)) (record { some = true; objective = v; x = x; face = f }) b ≡ pick_of (valued_of f x v) b
unfolding pick_of valued_of
judge_is f x v b = go (finite v)
  where
    go : (t : Bool) → cond (t && (not b.some || lt v b.objective)) (record { some = true; objective = v; x = x; face = f }) b
        ≡ cond ((cond t (record { some = true; objective = v; x = x; face = f }) no_try).some && (not b.some || lt (cond t (record { some = true; objective = v; x = x; face = f }) no_try).objective b.objective)) (cond t (record { some = true; objective = v; x = x; face = f }) no_try) b
    go true = refl
    go false = refl

-- ---- lent room

module _ (ks : List Float) (m sigma : Float) (ys hs : List Float) where
  pub ys_length : length (ys_on ks m sigma ys) ≡ length ys
  unfolding ys_on
  ys_length = filled_length _ _ ys

  pub hs_length : length (hs_on ks m sigma ys hs) ≡ length hs
  unfolding hs_on
  hs_length = filled_length _ _ hs

  module _ (a : 256 ≤ length ys) (b : 256 ≤ length hs) (r : length ks ≤ 256) where
    ys_at : (i : ℕ) → i < length ks → at (ys_on ks m sigma ys) i ≡ y_of ks m sigma i
    unfolding ys_on
    ys_at i l = filled_at _ nan _ i ys (omega arith) l

    hs_at : (i : ℕ) → i < length ks → at (hs_on ks m sigma ys hs) i ≡ h_of (y_of ks m sigma i)
    unfolding hs_on
    hs_at i l = filled_at _ nan _ i hs (omega arith) l ∙ ap h_of (ys_at i l)

-- what is chosen where a test holds need be the same only there
same_if : {A : Type 0} (t : Bool) {x y : A} (z : A) → (t ≡ true → x ≡ y) → cond t x z ≡ cond t y z
same_if true z f = f refl
same_if false z f = refl

-- in room for 256 numbers, `inner_on` is `inner`
pub inner_lent :
    (ks ws weights : List Float) (l : Limits) (m sigma : Float) (ys hs : List Float) → 256 ≤ length ys → 256 ≤ length hs
    → inner_on ks ws weights l m sigma ys hs ≡ inner_of ks ws weights l m sigma
unfolding inner_on inner_of cell_of
inner_lent ks ws weights l m sigma ys hs a b =
    same_if (in_range ks ws weights) no_cell
    (λ e.
    let h = both _ _ e in
    let r = leb-true _ _ h.0 in
    let w : length ws ≡ length ks = eqb-true _ _ (both _ _ h.1).0 in
    posed_same (at (ys_on ks m sigma ys)) (y_of ks m sigma) (at (hs_on ks m sigma ys hs)) (λ i. h_of (y_of ks m sigma i)) ws weights
    (λ i g. ys_at ks m sigma ys hs a b r i (omega (arith, g, w))) (λ i g. hs_at ks m sigma ys hs a b r i (omega (arith, g, w))) fit_model l sigma)

-- ---- the faces

-- a face that was tried is nothing, or that face with a finite objective
pub try_ind :
    (P : Tried → Type 0) (o : List Float → Float) (p : Problem) (f : Face) → P no_try
    → ((x : List Float) (v : Float) → finite v ≡ true → P (record { some = true; objective = v; x = x; face = f })) → P (try_of o p f)
unfolding try_of tried_of met_of valued_of
try_ind P o p f none some = cond_ind P s.ok (cond_ind P (feasible_of p.g p.h p.n p.slack (widened s.x)) (go (finite v) refl) none) none
  where
    s : Solved
    s = solution_of p.base p.right p.g p.h p.u p.pivot f

    v : Float
    v = o (widened s.x)

    go : (b : Bool) → finite v ≡ b → P (cond b (record { some = true; objective = v; x = widened s.x; face = f }) no_try)
    go true e = some (widened s.x) v e
    go false e = none

-- nothing is better than nothing
pub try_first : (o : List Float → Float) (p : Problem) (f : Face) → pick_of (try_of o p f) no_try ≡ try_of o p f
unfolding pick_of
try_first o p f = try_ind (λ (t : Tried). pick_of t no_try ≡ t) o p f refl (λ x v e. refl)

-- what does not qualify changes nothing
pub passed_over : (t b : Tried) → t.some ≡ false → b ≡ pick_of t b
unfolding pick_of
passed_over t b e = rw e

-- where no face qualifies the best is nothing
pub best_none : (o : List Float → Float) (p : Problem) (count : ℕ) → ((t : ℕ) → t < count → (try_of o p (face_at p.u p.n t)).some ≡ false) → no_try ≡ best_of o p count
unfolding best_of
best_none o p count none = for_keeps (λ (b : Tried). no_try ≡ b) _ count (λ t l b q. q ∙ passed_over _ b (none t l)) no_try refl

-- what holds of 0 and from 1 on holds of all
pub zero_or_more : (P : ℕ → Type 0) → P 0 → ((t : ℕ) → 0 < t → P t) → (t : ℕ) → P t
zero_or_more P z s zero = z
zero_or_more P z s (suc t) = s (suc t) (omega arith)

-- the answer for lists in range is that of the problem posed
pub posed_on : (ks ws weights : List Float) (l : Limits) (m sigma : Float) (ys hs : List Float) {r : Cell} → in_range ks ws weights ≡ true
    → r ≡ posed_of fit_model (at (ys_on ks m sigma ys)) (at (hs_on ks m sigma ys hs)) ws weights l sigma → r ≡ inner_on ks ws weights l m sigma ys hs
unfolding inner_on
posed_on ks ws weights l m sigma ys hs t e = if_true _ t e

-- turns of a loop from 1
pub one_more : (t : ℕ) → 1 ≤ t + 1
one_more t = omega arith

pub one_back : (t : ℕ) → t ≡ t + 1 - 1
one_back t = omega arith
