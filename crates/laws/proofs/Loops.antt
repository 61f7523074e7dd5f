-- The laws of `for` and `first`: a loop's invariant is "what is left to do, done to the present state, is the whole". Assumes nothing.
use mathlib.Core.Path.{◌≡◌, refl, sym, ap, subst, ◌∙◌}
use mathlib.Core.Logic.{⊎_elim}
use mathlib.Core.Bool.{Bool, true, false, cond}
use Prim.Native.Nat.{ℕ, zero, suc, ◌+◌, ◌-◌, ◌<◌, ◌≤◌}
use native.Mathlib.Omega.{arith}
use native.Mathlib.Nat.{add-zero, zero-add, eq-or-lt_of_le}
use native.Mathlib.Numerals.{add-one}
use Rattle.laws.specs.Loop.{turns, for, search_on, first}

module _ {S : Type 0} (f : ℕ → S → S) (i b : ℕ) where
  -- one turn is done, and it was the definition's
  pub again : {s t w : S} → i < b → t ≡ f i s → for i b f s ≡ w → for (i + 1) b f t ≡ w
  unfolding turns
  again {s} {t} {w} l e inv =
      let k : b - i ≡ suc (b - (i + 1)) = omega arith in
      ap (turns f (b - (i + 1)) (i + 1)) e ∙ sym (ap (λ (n : ℕ). turns f n i s) k) ∙ inv

  -- no turn is left
  pub ended : {s w : S} → b ≤ i → for i b f s ≡ w → s ≡ w
  unfolding turns
  ended {s} {w} l inv =
      let k : b - i ≡ 0 = omega arith in
      sym (ap (λ (n : ℕ). turns f n i s) k) ∙ inv

still : {S : Type 0} (f : ℕ → S → S) (k i : ℕ) {s : S} → ((j : ℕ) → f j s ≡ s) → turns f k i s ≡ s
unfolding turns
still f zero i h = refl
still f (suc k) i h = ap (turns f k (i + 1)) (h i) ∙ still f k (i + 1) h

-- a state that no turn changes is the whole's: the code may stop there
pub halted : {S : Type 0} (f : ℕ → S → S) (i b : ℕ) {s w : S} → ((j : ℕ) → f j s ≡ s) → for i b f s ≡ w → s ≡ w
halted f i b h inv = sym (still f (b - i) i h) ∙ inv

-- the last turn: k + 1 turns are k of them and one more
pub turns_last : {S : Type 0} (f : ℕ → S → S) (k i : ℕ) (s : S) → turns f (suc k) i s ≡ f (i + k) (turns f k i s)
unfolding turns
turns_last f zero i s = ap (λ (n : ℕ). f n s) (sym (add-zero i))
turns_last f (suc k) i s = turns_last f k (i + 1) (f i s) ∙ ap (λ (n : ℕ). f n (turns f k (i + 1) (f i s))) (omega arith)

-- a loop whose state is that after so many turns: the start, one turn more, the end
module _ {S : Type 0} (f : ℕ → S → S) (s : S) where
  pub for_next : (k : ℕ) → for 0 (k + 1) f s ≡ f k (for 0 k f s)
  for_next k =
      let e : k + 1 - 0 ≡ suc k = omega arith in
      let d : k ≡ k - 0 = omega arith in
      ap (λ (n : ℕ). turns f n 0 s) e ∙ turns_last f k 0 s ∙ ap (λ (n : ℕ). f n (turns f k 0 s)) (zero-add k) ∙ ap (λ (n : ℕ). f k (turns f n 0 s)) d

  pub none_yet : s ≡ for 0 0 f s
  unfolding turns
  none_yet = refl

  pub one_more : (k : ℕ) {t r : S} → t ≡ for 0 k f s → r ≡ f k t → r ≡ for 0 (k + 1) f s
  one_more k e h = h ∙ ap (f k) e ∙ sym (for_next k)

  pub all_done : {k n : ℕ} {t : S} → k ≡ n → t ≡ for 0 k f s → t ≡ for 0 n f s
  all_done e h = h ∙ ap (λ (n : ℕ). for 0 n f s) e

-- what holds at the start of a loop, and is kept by each turn, holds at its end
module _ {S : Type 0} (f : ℕ → S → S) (P : ℕ → S → Type 0) (b : ℕ) (step : (j : ℕ) (t : S) → j < b → P j t → P (j + 1) (f j t)) where
  pub turns_ind : (k i : ℕ) (s : S) → i + k ≡ b → P i s → P b (turns f k i s)
  unfolding turns
  turns_ind zero i s e p = rw (← e) (rw add-zero p)
  turns_ind (suc k) i s e p = turns_ind k (i + 1) (f i s) (omega arith) (step i s (omega arith) p)

  pub for_ind : (s : S) → P 0 s → P b (for 0 b f s)
  for_ind s p = turns_ind (b - 0) 0 s (omega arith) p

-- the same of a property that does not speak of the turn
pub for_keeps : {S : Type 0} (P : S → Type 0) (f : ℕ → S → S) (b : ℕ) → ((i : ℕ) → i < b → (s : S) → P s → P (f i s)) → (s : S) → P s → P (for 0 b f s)
for_keeps P f b keeps s p = for_ind f (λ (i : ℕ) (t : _). P t) b (λ j t l. keeps j l t) s p

-- the same of a loop from a on, where the property speaks of how many turns are done
pub for_turns : {S : Type 0} (f : ℕ → S → S) (P : ℕ → S → Type 0) (a b : ℕ) → ((k : ℕ) (t : S) → a + k < b → P k t → P (k + 1) (f (a + k) t)) → (s : S) → P 0 s → P (b - a) (for a b f s)
unfolding turns
for_turns f P a b step s p = go (b - a) (omega arith)
  where
    go : (k : ℕ) → k ≤ b - a → P k (turns f k a s)
    go zero l = p
    go (suc k) l = subst (P (suc k)) (sym (turns_last f k a s)) (rw add-one at (step k (turns f k a s) (omega arith) (go k (omega arith))))

-- what holds below i and at i holds below i + 1
pub below_next : (P : ℕ → Type 0) (i : ℕ) → ((k : ℕ) → k < i → P k) → P i → (k : ℕ) → k < i + 1 → P k
below_next P i all here k l =
    let m : k ≤ i = omega arith in
    ⊎_elim (λ (e : k ≡ i). subst P (sym e) here) (all k) (eq-or-lt_of_le m)

-- loops whose turns agree agree
module _ {S : Type 0} (f g : ℕ → S → S) (b : ℕ) (same : (i : ℕ) → i < b → (s : S) → f i s ≡ g i s) where
  turns_same : (k i : ℕ) (s : S) → i + k ≤ b → turns f k i s ≡ turns g k i s
  unfolding turns
  turns_same zero i s l = refl
  turns_same (suc k) i s l = turns_same k (i + 1) (f i s) (omega arith) ∙ ap (turns g k (i + 1)) (same i (omega arith) s)

  pub for_same : (s : S) → for 0 b f s ≡ for 0 b g s
  for_same s = turns_same (b - 0) 0 s (omega arith)

-- a search: found here, not here, or at the end; the code hands back i in the first and the last case
module _ (p : ℕ → Bool) (i b : ℕ) where
  first_step : i < b → first p i b ≡ cond (p i) i (first p (i + 1) b)
  unfolding search_on
  first_step l =
      let k : b - i ≡ suc (b - (i + 1)) = omega arith in
      ap (λ (n : ℕ). search_on p n i) k

  pub first_here : {w : ℕ} → i < b → p i ≡ true → first p i b ≡ w → i ≡ w
  first_here {w} l h inv = sym (ap (λ (t : Bool). cond t i (first p (i + 1) b)) h) ∙ sym (first_step l) ∙ inv

  pub first_on : {w : ℕ} → i < b → p i ≡ false → first p i b ≡ w → first p (i + 1) b ≡ w
  first_on {w} l h inv = sym (ap (λ (t : Bool). cond t i (first p (i + 1) b)) h) ∙ sym (first_step l) ∙ inv

  pub first_none : {w : ℕ} → b ≤ i → first p i b ≡ w → i ≡ w
  unfolding search_on
  first_none {w} l inv =
      let k : b - i ≡ 0 = omega arith in
      sym (ap (λ (n : ℕ). search_on p n i) k) ∙ inv
