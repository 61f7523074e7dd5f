-- The whole `solve` and `solve_under`: their answers, from those of the functions that they call. Assumes nothing.
use mathlib.Core.Path.{◌≡◌, refl, sym, ap, ap₂, subst, ◌∙◌}
use mathlib.Core.Bool.{Bool, true, false, ◌&&◌}
use mathlib.Core.List.{List}
use Prim.Native.Nat.{ℕ, zero, suc, ◌+◌, ◌-◌, ◌≤◌, ◌<◌}
use native.Mathlib.Omega.{arith}
use lib.ListN.{length, replicate, length-replicate}
use lib.Ieee.{Float, lt, of_bits}
use lib.Dec.{ltb, leb}
use borrow.Author.Tests.{le-leb, ltb-true, leb-true}
use Rattle.laws.specs.Loop.{turns}
use Rattle.laws.specs.Floats.{+0, ◌*f◌, finite, positive}
use Rattle.laws.proofs.Choices.{both, false_true, cond_test, if_true, if_false}
use Rattle.solver.specs.declared.Solved.{Solved}
use Rattle.solver.specs.Solve.{standing, refused, scale_of, eliminated_of, back_if, solved_at_scale, solve_of}
use Rattle.solver.specs.Rows.{Room, room, solved_in, updates_in, placed_of, front_of, answer_of}
use Rattle.solver.proofs.Views.{Found}
use Rattle.solver.proofs.Solutions.{eliminated_sound}
use Rattle.solver.proofs.Placed.{placed_stands, placed_length, first_found, none_found}
use Rattle.solver.proofs.Same.{solved, counted}

-- a test of the size is the definition's
pub sized : (n : ℕ) → (ltb 0 n && leb n 6) ≡ true → (1 ≤ n) × (n ≤ 6)
sized n h =
    let h = both (ltb 0 n) (leb n 6) h in
    (ltb-true 0 n h.0, leb-true n 6 h.1)

-- no unknowns have no positive scale
some : (n : ℕ) (m : List Float) → positive (scale_of n m) ≡ true → 0 < n
unfolding scale_of turns finite lt of_bits
some zero m h = false_true h
some (suc n) m h = omega arith

pub sized_by_scale : (n : ℕ) (m : List Float) (scale : Float) → n ≤ 6 → scale ≡ scale_of n m → positive scale ≡ true → (1 ≤ n) × (n ≤ 6)
sized_by_scale n m scale l e h = (some n m (sym (ap positive e) ∙ h), l)

-- no positive scale
pub unscaled : (n : ℕ) (m rhs : List Float) (tol scale : Float) → n ≤ 6 → scale ≡ scale_of n m → positive scale ≡ false → refused 0 ≡ solve_of n m rhs tol
unfolding solve_of solved_at_scale
unscaled n m rhs tol scale l e h = if_true (refused 0) (le-leb n 6 l) (if_false _ (sym (ap positive e) ∙ h) refl)

-- and one leads to the elimination
pub scaled : (n : ℕ) (m rhs : List Float) (tol scale : Float) → n ≤ 6 → scale ≡ scale_of n m → positive scale ≡ true → back_if n (eliminated_of n (tol *f scale) (standing m rhs)) ≡ solve_of n m rhs tol
unfolding solve_of solved_at_scale
scaled n m rhs tol scale six e pos =
    if_true (refused 0) (le-leb n 6 six)
    (if_true (refused 0) (sym (ap positive e) ∙ pos) (ap (λ (s : Float). back_if n (eliminated_of n (tol *f s) (standing m rhs))) e))

module _ (n : ℕ) (m rhs : List Float) (limit : Float) (sizes : (1 ≤ n) × (n ≤ 6)) (long-m : length m ≡ 36) (long-rhs : length rhs ≡ 6) where
  -- the plain answer
  abbrev answer : Solved
  answer = back_if n (eliminated_of n limit (standing m rhs))

  -- the rows find it
  found : (t : List Float) (u : Room) → t ≡ placed_of n m rhs → u ≡ solved_in n limit t (replicate 6 +0) → Found n (6 - n) answer u
  found t u p q =
      let o = 6 - n in
      let sum : n + o ≡ 6 = omega (arith, sizes.1) in
      subst (Found n o answer) (sym (q ∙ ap (λ (t : List Float). solved_in n limit t (replicate 6 +0)) p))
      (solved n o limit m rhs (placed_of n m rhs) (replicate 6 +0) sum sizes.0 long-m long-rhs
      (placed_length n o m rhs sum) (length-replicate 6 +0) (placed_stands n o m rhs sum))

  -- with its updates
  as_many : (t : List Float) (u : ℕ) → t ≡ placed_of n m rhs → u ≡ updates_in n limit t → u ≡ answer.updates
  as_many t u p q =
      let o = 6 - n in
      let sum : n + o ≡ 6 = omega (arith, sizes.1) in
      q ∙ ap (updates_in n limit) p ∙ counted n o limit m rhs (placed_of n m rhs) sum sizes.0 long-m long-rhs (placed_length n o m rhs sum) (placed_stands n o m rhs sum)

  -- the rows were solved, and their unknowns taken out
  pub accepts : (t x y : List Float) (r : Bool) (u : ℕ) → t ≡ placed_of n m rhs → (room r x ≡ solved_in n limit t (replicate 6 +0)) × (u ≡ updates_in n limit t) → r ≡ true → y ≡ front_of n x
      → record { x = y; ok = true; updates = u } ≡ answer
  accepts t x y r u p q h k =
      let f = found t (room r x) p q.0 in
      let sum : n + (6 - n) ≡ 6 = omega (arith, sizes.1) in
      ap₂ (λ (y : List Float) (u : ℕ). record { x = y; ok = true; updates = u }) k (as_many t u p q.1) ∙ first_found n (6 - n) answer (room r x) sum f (eliminated_sound n _ sizes.1) (f.same ∙ h)

  -- the rows were not solved
  pub refuses : (t x : List Float) (r : Bool) (u : ℕ) → t ≡ placed_of n m rhs → (room r x ≡ solved_in n limit t (replicate 6 +0)) × (u ≡ updates_in n limit t) → r ≡ false → refused u ≡ answer
  refuses t x r u p q h = ap refused (as_many t u p q.1) ∙ none_found n answer (eliminated_sound n _ sizes.1) ((found t (room r x) p q.0).same ∙ h)

  -- the answer that the code makes of the rows
  pub answered : (t : List Float) → t ≡ placed_of n m rhs → answer_of n limit t ≡ answer
  unfolding answer_of
  answered t p =
      let s = solved_in n limit t (replicate 6 +0) in
      let u = updates_in n limit t in
      cond_test (λ a. a ≡ answer) s.ok
      (λ h. accepts t s.m (front_of n s.m) s.ok u p (refl, refl) h refl)
      (λ h. refuses t s.m s.ok u p (refl, refl) h)
