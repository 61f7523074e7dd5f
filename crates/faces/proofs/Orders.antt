-- The order of the 64 faces: each set of at most three of seven constraints stands in it once, and the code's `next_of` walks it. Computed, not argued. Assumes nothing.
use mathlib.Core.Path.{◌≡◌, refl, sym, ap, subst, ◌∙◌}
use mathlib.Core.Bool.{Bool, true, false, ◌&&◌, cond}
use mathlib.Core.List.{List, [], ◌∷◌}
use Prim.Native.Nat.{ℕ, zero, suc, ◌+◌, ◌-◌, ◌<◌, ◌≤◌}
use native.Mathlib.Nat.{eq-or-lt_of_le, le_of_suc-le-suc, not-suc-le-zero}
use native.Mathlib.Omega.{arith}
use mathlib.Core.Logic.{⊎_elim}
use lib.Dec.{T, eqb, ltb, leb, eqb→eq, ltb→lt, leb→le}
use lib.ListN.{length}
use lib.Ieee.Fits.{and_l, and_r}
use Rattle.laws.proofs.Choices.{cond_ind}
use Rattle.faces.specs.declared.Face.{Face}
use Rattle.faces.specs.Faces.{sets, sets_up_to, face_of, face_at}
use Rattle.faces.specs.Next.{after_one, after_two, after_three, next_of, Good, Ordered}

-- a test that holds at each number below k
unfoldable pub each : ℕ → (ℕ → Bool) → Bool
each zero p = true
each (suc k) p = p k && each k p

pub at_each : (k : ℕ) (p : ℕ → Bool) → T (each k p) → (t : ℕ) → t < k → T (p t)
unfolding each
at_each zero p h t l = absurd (not-suc-le-zero l)
at_each (suc k) p h t l =
    ⊎_elim (λ (e : t ≡ k). subst (λ (t : ℕ). T (p t)) (sym e) (and_l (p k) (each k p) h)) (at_each k p (and_r (p k) (each k p) h) t) (eq-or-lt_of_le (le_of_suc-le-suc l))

unfoldable same : Face → Face → Bool
same f g = (eqb f.size g.size && eqb f.a g.a) && (eqb f.b g.b && eqb f.c g.c)

same_is : (f g : Face) → T (same f g) → f ≡ g
unfolding same
same_is f g h =
    let l = and_l (eqb f.size g.size && eqb f.a g.a) (eqb f.b g.b && eqb f.c g.c) h in
    let r = and_r (eqb f.size g.size && eqb f.a g.a) (eqb f.b g.b && eqb f.c g.c) h in
    let p : f.size ≡ g.size = eqb→eq _ _ (and_l (eqb f.size g.size) (eqb f.a g.a) l) in
    let q : f.a ≡ g.a = eqb→eq _ _ (and_r (eqb f.size g.size) (eqb f.a g.a) l) in
    let s : f.b ≡ g.b = eqb→eq _ _ (and_l (eqb f.b g.b) (eqb f.c g.c) r) in
    let t : f.c ≡ g.c = eqb→eq _ _ (and_r (eqb f.b g.b) (eqb f.c g.c) r) in
    λ i. record { size = p i; a = q i; b = s i; c = t i }

unfoldable fine : ℕ → ℕ → Face → Bool
fine u n f = (leb f.size u && ltb f.a n) && (ltb f.b n && ltb f.c n)

fine_is : (u n : ℕ) (f : Face) → T (fine u n f) → Good u n f
unfolding fine
fine_is u n f h =
    let l = and_l (leb f.size u && ltb f.a n) (ltb f.b n && ltb f.c n) h in
    let r = and_r (leb f.size u && ltb f.a n) (ltb f.b n && ltb f.c n) h in
    record {
      size = leb→le _ _ (and_l (leb f.size u) (ltb f.a n) l);
      a = ltb→lt _ _ (and_r (leb f.size u) (ltb f.a n) l);
      b = ltb→lt _ _ (and_l (ltb f.b n) (ltb f.c n) r);
      c = ltb→lt _ _ (and_r (ltb f.b n) (ltb f.c n) r);
    }

-- the two tests of an order of suc last faces
unfoldable orderly : ℕ → ℕ → ℕ → Bool
orderly u n last = each (suc last) (λ t. fine u n (face_at u n t)) && each last (λ t. same (next_of n (face_at u n t)) (face_at u n (t + 1)))

orderly_is : (u n last : ℕ) → u ≤ 3 → n ≤ 7 → last < 64 → face_at u n 0 ≡ face_of [] → T (orderly u n last) → Ordered u n (suc last)
unfolding orderly
orderly_is u n last l m k first h =
    let g = and_l (each (suc last) (λ t. fine u n (face_at u n t))) (each last (λ t. same (next_of n (face_at u n t)) (face_at u n (t + 1)))) h in
    let s = and_r (each (suc last) (λ t. fine u n (face_at u n t))) (each last (λ t. same (next_of n (face_at u n t)) (face_at u n (t + 1)))) h in
    record {
      unknowns = l;
      rows = m;
      many = omega arith;
      few = k;
      first = first;
      good = λ t i. fine_is u n (face_at u n t) (at_each (suc last) (λ t. fine u n (face_at u n t)) g t i);
      step = λ t i. same_is (next_of n (face_at u n t)) (face_at u n (t + 1)) (at_each last (λ t. same (next_of n (face_at u n t)) (face_at u n (t + 1))) s t (omega arith));
    }

-- the fit: three of seven
pub fit_order : Ordered 3 7 64
unfolding orderly each fine same face_at sets_up_to sets next_of after_one after_two after_three
fit_order = orderly_is 3 7 63 (omega arith) (omega arith) (omega arith) refl tt

-- the face after face t - 1 is face t, and a face of the order is a good one, by whatever name it is known
module _ {u n count : ℕ} (O : Ordered u n count) where
  pub stepped : (t : ℕ) (f g : Face) → 1 ≤ t → t < count → f ≡ face_at u n (t - 1) → g ≡ next_of n f → g ≡ face_at u n t
  stepped t f g l m e d =
      let k : t - 1 + 1 ≡ t = omega arith in
      d ∙ ap (next_of n) e ∙ O.step (t - 1) (omega arith) ∙ ap (face_at u n) k

  pub good_at : (t : ℕ) (f : Face) → t < count → f ≡ face_at u n t → Good u n f
  good_at t f l e = subst (Good u n) (sym e) (O.good t l)

-- every face that comes after one has a constraint
next_some : (n : ℕ) (f : Face) → 0 < (next_of n f).size
unfolding next_of after_one after_two after_three
next_some n f =
    let P : Face → Type 0 = λ f. 0 < f.size in
    let one : 0 < 1 = omega arith in
    let two : 0 < 2 = omega arith in
    let three : 0 < 3 = omega arith in
    cond_ind P (eqb f.size 0) one
    (cond_ind P (eqb f.size 1) (cond_ind P (ltb (f.a + 1) n) one two)
    (cond_ind P (eqb f.size 2) (cond_ind P (ltb (f.b + 1) n) two (cond_ind P (ltb (f.a + 2) n) two three))
    (cond_ind P (ltb (f.c + 1) n) three (cond_ind P (ltb (f.b + 2) n) three (cond_ind P (ltb (f.a + 3) n) three three)))))

-- so has every face but the first
pub face_some : (t : ℕ) → 0 < t → t < 64 → 0 < (face_at 3 7 t).size
face_some zero h l = absurd (omega arith)
face_some (suc t) h l =
    let e : t + 1 ≡ suc t = omega arith in
    subst (λ (k : ℕ). 0 < (face_at 3 7 k).size) e (subst (λ (f : Face). 0 < f.size) (fit_order.step t (omega arith)) (next_some 7 (face_at 3 7 t)))

-- how many
pub fit_count : length (sets_up_to 3 7) ≡ 64
unfolding sets_up_to sets
fit_count = refl

-- ---- each set once: sets of numbers below n as n marks

-- a test that holds at every list of n marks
unfoldable pub every : ℕ → (List Bool → Bool) → Bool
every zero p = p []
every (suc n) p = every n (λ m. p (true ∷ m)) && every n (λ m. p (false ∷ m))

pub at_every : (n : ℕ) (p : List Bool → Bool) → T (every n p) → (m : List Bool) → length m ≡ n → T (p m)
unfolding every
at_every zero p h [] e = h
at_every zero p h (b ∷ m) e = absurd (omega arith)
at_every (suc n) p h [] e = absurd (omega arith)
at_every (suc n) p h (true ∷ m) e = at_every n (λ m. p (true ∷ m)) (and_l (every n (λ m. p (true ∷ m))) (every n (λ m. p (false ∷ m))) h) m (omega arith)
at_every (suc n) p h (false ∷ m) e = at_every n (λ m. p (false ∷ m)) (and_r (every n (λ m. p (true ∷ m))) (every n (λ m. p (false ∷ m))) h) m (omega arith)

-- the numbers that are marked, from a on
unfoldable pub members : ℕ → List Bool → List ℕ
members a [] = []
members a (true ∷ m) = a ∷ members (suc a) m
members a (false ∷ m) = members (suc a) m

unfoldable pub equal : List ℕ → List ℕ → Bool
equal [] [] = true
equal [] (y ∷ ys) = false
equal (x ∷ xs) [] = false
equal (x ∷ xs) (y ∷ ys) = eqb x y && equal xs ys

-- how often a set stands in a list of sets
unfoldable pub times : List ℕ → List (List ℕ) → ℕ
times s [] = 0
times s (x ∷ xs) = cond (equal s x) 1 0 + times s xs

-- each set of up to u of the numbers below n stands in the order once, and no other
abbrev once : ℕ → ℕ → List Bool → Bool
once u n m = eqb (times (members 0 m) (sets_up_to u n)) (cond (leb (length (members 0 m)) u) 1 0)

pub fit_once : (m : List Bool) → length m ≡ 7 → times (members 0 m) (sets_up_to 3 7) ≡ cond (leb (length (members 0 m)) 3) 1 0
unfolding every times members equal sets_up_to sets
fit_once m e = eqb→eq _ _ (at_every 7 (once 3 7) tt m e)
