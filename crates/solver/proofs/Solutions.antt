-- What a caller may rely on without looking into the elimination: every number handed back is finite, what is no unknown is +0, and a refusal is all +0. Assumes nothing.
use mathlib.Core.Path.{◌≡◌, refl, sym, ap, ◌∙◌}
use mathlib.Core.Bool.{Bool, true, false, cond}
use mathlib.Core.List.{List}
use Prim.Native.Nat.{ℕ, ◌-◌, ◌<◌, ◌≤◌}
use native.Mathlib.Omega.{arith}
use lib.Dec.{eqb, leb}
use lib.ListN.{length, set, replicate, get_or-replicate, length-set, length-replicate}
use lib.Seq.{get_or-set_same, get_or-set_other}
use lib.Ieee.{Float, nan, of_bits}
use borrow.Author.Tests.{eqb-true, eqb-false, leb-true}
use Rattle.laws.specs.Choice.{unless}
use Rattle.laws.specs.Floats.{+0, ◌-f◌, ◌*f◌, ◌/f◌, at, finite, positive}
use Rattle.laws.proofs.Loops.{for_keeps}
use Rattle.laws.proofs.Choices.{cond_ind, false_true}
use Rattle.solver.specs.declared.Solved.{Solved}
use Rattle.solver.specs.Solve.{System, refused, standing, entry, right_sum, with_value, back_row_of, back_of, back_if, eliminated_of, solved_at_scale, scale_of, solve_of}

-- the six numbers of an answer in n unknowns
pub record Sound (n : ℕ) (t : Solved) : Type 0 where
  pub six : length t.x ≡ 6
  pub finites : (i : ℕ) → i < 6 → finite (at t.x i) ≡ true
  pub beyond : (i : ℕ) → n ≤ i → i < 6 → at t.x i ≡ +0
  pub none : t.ok ≡ false → (i : ℕ) → i < 6 → at t.x i ≡ +0

blank : (i : ℕ) → i < 6 → at (replicate 6 +0) i ≡ +0
blank i l = get_or-replicate 6 i +0 nan l

blank_finite : (i : ℕ) → i < 6 → finite (at (replicate 6 +0) i) ≡ true
unfolding finite of_bits
blank_finite i l = ap finite (blank i l)

starts : (n : ℕ) (ok : Bool) (updates : ℕ) → Sound n (record { ok = ok; x = replicate 6 +0; updates = updates })
starts n ok updates = record { six = length-replicate 6 +0; finites = blank_finite; beyond = λ i h l. blank i l; none = λ h i l. blank i l }

set_sound : (n row : ℕ) (v : Float) (t : Solved) → row < n → row < 6 → finite v ≡ true → Sound n t → Sound n (record { ok = true; x = set t.x row v; updates = t.updates })
set_sound n row v t r s f p =
    record {
      six = length-set t.x row v ∙ p.six;
      finites = each;
      beyond = λ i h l. get_or-set_other t.x row i v nan (λ e. omega arith) ∙ p.beyond i h l;
      none = λ h. false_true (sym h);
    }
  where
    each : (i : ℕ) → i < 6 → finite (at (set t.x row v) i) ≡ true
    each i l = go (eqb i row) refl
      where
        go : (b : Bool) → eqb i row ≡ b → finite (at (set t.x row v) i) ≡ true
        go true e = rw (eqb-true i row e) (ap finite (get_or-set_same t.x row v nan (omega (arith, p.six))) ∙ f)
        go false e = ap finite (get_or-set_other t.x row i v nan (eqb-false i row e)) ∙ p.finites i l

placed_sound : (n row : ℕ) (v : Float) (t : Solved) → row < n → row < 6 → Sound n t → Sound n (with_value row v t)
unfolding with_value
placed_sound n row v t r s p = go (finite v) refl
  where
    go : (b : Bool) → finite v ≡ b → Sound n (cond b (record { ok = true; x = set t.x row v; updates = t.updates }) (refused t.updates))
    go true e = set_sound n row v t r s e p
    go false e = starts n false t.updates

back_sound : (n : ℕ) (m rhs : List Float) (updates : ℕ) → n ≤ 6 → Sound n (back_of n m rhs updates)
unfolding back_of back_row_of
back_sound n m rhs updates l =
    for_keeps (Sound n) _ n
    (λ k h t p. cond_ind (Sound n) t.ok (placed_sound n (n - 1 - k) ((at rhs (n - 1 - k) -f right_sum n m t.x (n - 1 - k)) /f entry m (n - 1 - k) (n - 1 - k)) t (omega arith) (omega arith) p) p) _ (starts n true updates)

-- of a system that was eliminated, or refused
pub eliminated_sound : (n : ℕ) (s : System) → n ≤ 6 → Sound n (back_if n s)
unfolding back_if
eliminated_sound n s l = cond_ind (Sound n) s.ok (back_sound n _ _ s.updates l) (starts n false s.updates)

-- the substitution back leaves the updates as they are
pub back_updates : (n : ℕ) (s : System) → (back_if n s).updates ≡ s.updates
unfolding back_if back_of back_row_of with_value
back_updates n s =
    cond_ind Kept s.ok
    (for_keeps Kept _ n (λ k h t p. cond_ind Kept t.ok (cond_ind Kept (finite ((at s.rhs (n - 1 - k) -f right_sum n s.m t.x (n - 1 - k)) /f entry s.m (n - 1 - k) (n - 1 - k))) p p) p) _ refl) refl
  where
    Kept : Solved → Type 0
    Kept t = t.updates ≡ s.updates

-- of every system whatever
pub solve_sound : (n : ℕ) (m rhs : List Float) (tol : Float) → Sound n (solve_of n m rhs tol)
unfolding solve_of solved_at_scale
solve_sound n m rhs tol = go (leb n 6) refl
  where
    s : Float
    s = scale_of n m

    go : (b : Bool) → leb n 6 ≡ b → Sound n (unless b (refused 0) (solved_at_scale n m rhs tol s))
    go true e =
        cond_ind (Sound n) (positive s) (eliminated_sound n (eliminated_of n (tol *f s) (standing m rhs)) (leb-true n 6 e)) (starts n false 0)
    go false e = starts n false 0

-- a system that is solved has finite unknowns
pub solved_finite : (n : ℕ) (m rhs : List Float) (tol : Float) (i : ℕ) → i < 6 → finite (at (solve_of n m rhs tol).x i) ≡ true
solved_finite n m rhs tol i l = (solve_sound n m rhs tol).finites i l

-- and what is no unknown is +0
pub solved_beyond : (n : ℕ) (m rhs : List Float) (tol : Float) (i : ℕ) → n ≤ i → i < 6 → at (solve_of n m rhs tol).x i ≡ +0
solved_beyond n m rhs tol i h l = (solve_sound n m rhs tol).beyond i h l
