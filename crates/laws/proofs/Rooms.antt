-- Room that is written from its front, and `written`: what a refusal and an accepted answer leave in it; room of which each place is filled. Assumes nothing.
use mathlib.Core.Path.{◌≡◌, refl, ap, ◌∙◌, subst}
use mathlib.Core.List.{List, [], ◌∷◌, ◌++◌, append_assoc}
use mathlib.Core.Logic.{⊎_elim}
use Prim.Native.Nat.{ℕ, zero, suc, ◌+◌, ◌-◌, ◌≤◌, ◌<◌}
use native.Mathlib.Nat.{eq-or-lt_of_le}
use native.Mathlib.Omega.{arith}
use lib.ListN.{length, drop, set, get_or, length-set}
use lib.Seq.{drop-cons, set_at, set-set, set_comm, get_or-set_same, get_or-set_other}
use borrow.Author.Tests.{eq-eqb, ne_eqb}
use Rattle.laws.specs.Loop.{turns}
use Rattle.laws.specs.Room.{at_front, written, filled_on}
use Rattle.laws.proofs.Choices.{if_true, if_false}
use Rattle.laws.proofs.Loops.{for_keeps}

-- one element more behind the n that are written, in front of the room o
pub put_next : {A : Type 0} (d : A) (p o : List A) (n m : ℕ) (a : A) → length p ≡ n → n < length o → m ≡ suc n → set (p ++ drop n o) n a ≡ (p ++ (a ∷ [])) ++ drop m o
put_next d p o n m a e l k = rw (k, drop-cons o n d l, append_assoc) (set_at p _ (drop (suc n) o) a n e)

-- a refusal leaves the room as it was
pub kept : {A : Type 0} (number : ℕ) (list before : List A) → (number ≡ 0 → ⊥) → before ≡ written number list before
unfolding written
kept number list before h = if_false _ (ne_eqb number 0 h) refl

-- an accepted answer writes its list
pub wrote : {A : Type 0} (number : ℕ) (list before : List A) → number ≡ 0 → at_front list before ≡ written number list before
unfolding written
wrote number list before h = if_true _ (eq-eqb number 0 h) refl

module _ {A : Type 0} (v : ℕ → A) where
  over : (k j i : ℕ) (t : List A) (a : A) → j ≤ i → i < j + k → turns (λ i t. set t i (v i)) k j (set t i a) ≡ turns (λ i t. set t i (v i)) k j t
  unfolding turns
  over zero j i t a l m = absurd (omega arith)
  over (suc k) j i t a l m =
      ⊎_elim
      (λ (e : j ≡ i). ap (turns (λ i t. set t i (v i)) k (j + 1)) (subst (λ (i : ℕ). set (set t i a) j (v j) ≡ set t j (v j)) e (set-set t j a (v j))))
      (λ h. ap (turns (λ i t. set t i (v i)) k (j + 1)) (set_comm t i j a (v j) (λ e. omega arith)) ∙ over k (j + 1) i (set t j (v j)) a (omega arith) (omega arith))
      (eq-or-lt_of_le l)

  -- what stood in a place that is filled does not show
  pub filled_over : (n i : ℕ) (t : List A) (a : A) → i < n → filled_on n v (set t i a) ≡ filled_on n v t
  unfolding filled_on
  filled_over n i t a l = over (n - 0) 0 i t a (omega arith) (omega arith)

  beyond : (d : A) (k j i : ℕ) (t : List A) → i < j → get_or (turns (λ i t. set t i (v i)) k j t) i d ≡ get_or t i d
  unfolding turns
  beyond d zero j i t l = refl
  beyond d (suc k) j i t l = beyond d k (j + 1) i (set t j (v j)) (omega arith) ∙ get_or-set_other t j i (v j) d (λ e. omega arith)

  laid : (d : A) (k j i : ℕ) (t : List A) → j ≤ i → i < j + k → j + k ≤ length t → get_or (turns (λ i t. set t i (v i)) k j t) i d ≡ v i
  unfolding turns
  laid d zero j i t l m r = absurd (omega arith)
  laid d (suc k) j i t l m r =
      ⊎_elim
      (λ (e : j ≡ i). beyond d k (j + 1) i (set t j (v j)) (omega arith) ∙ subst (λ (i : ℕ). get_or (set t j (v j)) i d ≡ v i) e (get_or-set_same t j (v j) d (omega arith)))
      (λ h. laid d k (j + 1) i (set t j (v j)) (omega arith) (omega arith) (omega (arith, length-set t j (v j))))
      (eq-or-lt_of_le l)

  -- a place that is filled holds its value
  pub filled_at : (d : A) (n i : ℕ) (before : List A) → n ≤ length before → i < n → get_or (filled_on n v before) i d ≡ v i
  unfolding filled_on
  filled_at d n i before s l = laid d (n - 0) 0 i before (omega arith) (omega arith) (omega arith)

  pub filled_length : (n : ℕ) (before : List A) → length (filled_on n v before) ≡ length before
  unfolding filled_on
  filled_length n before = for_keeps (λ (t : List A). length t ≡ length before) _ n (λ i l t e. length-set t i (v i) ∙ e) before refl
