-- What a search or a chain of tests over a slice answers is what the loops of the definitions say; and both read the front of an array alone. Assumes nothing.
use mathlib.Core.Path.{◌≡◌, refl, sym, ap, ap₂, ◌∙◌}
use mathlib.Core.Bool.{Bool, true, false, not, ◌&&◌, ◌||◌, cond}
use mathlib.Core.List.{List, [], ◌∷◌}
use Prim.Native.Nat.{ℕ, zero, suc, ◌+◌, ◌-◌, ◌≤◌, ◌<◌}
use native.Mathlib.Nat.{sub-zero}
use native.Mathlib.Numerals.{add-one}
use native.Mathlib.Omega.{arith}
use lib.Dec.{eqb, ltb}
use lib.ListN.{length, get_or, drop}
use borrow.Author.Tests.{ltb-true, ltb-false}
use Rattle.std.specs.Prelude.{Some, None}
use Rattle.std.specs.List.{list_all, list_any, position, position_or_len, zip}
use Rattle.laws.specs.Loop.{turns, for, search_on, first}
use Rattle.laws.proofs.Folds.{shifted}
use Rattle.laws.proofs.Choices.{and_assoc, or_assoc, false_true}

-- ---- loops and searches of which the turns are alike

module _ {S : Type 0} (f g : ℕ → S → S) (a b : ℕ) (same : (i : ℕ) → a ≤ i → i < b → (s : S) → f i s ≡ g i s) where
  turns_alike : (k i : ℕ) (s : S) → a ≤ i → i + k ≤ a + (b - a) → turns f k i s ≡ turns g k i s
  unfolding turns
  turns_alike zero i s h l = refl
  turns_alike (suc k) i s h l = turns_alike k (i + 1) (f i s) (omega arith) (omega arith) ∙ ap (turns g k (i + 1)) (same i h (omega arith) s)

  pub for_alike : (s : S) → for a b f s ≡ for a b g s
  for_alike s = turns_alike (b - a) a s (omega arith) (omega arith)

module _ (p q : ℕ → Bool) (a b : ℕ) (same : (i : ℕ) → a ≤ i → i < b → p i ≡ q i) where
  search_alike : (k i : ℕ) → a ≤ i → i + k ≤ a + (b - a) → search_on p k i ≡ search_on q k i
  unfolding search_on
  search_alike zero i h l = refl
  search_alike (suc k) i h l = ap₂ (λ (t : Bool) (n : ℕ). cond t i n) (same i h (omega arith)) (search_alike k (i + 1) (omega arith) (omega arith))

  pub first_alike : first p a b ≡ first q a b
  first_alike = search_alike (b - a) a (omega arith) (omega arith)

-- ---- a search from i + 1 on is one from i on, of what is one further

later : (b : Bool) (i m : ℕ) → cond b (suc i) (suc m) ≡ suc (cond b i m)
later true i m = refl
later false i m = refl

search_shift : (p : ℕ → Bool) (k i : ℕ) → search_on p k (i + 1) ≡ suc (search_on (λ (j : ℕ). p (suc j)) k i)
unfolding search_on
search_shift p zero i = add-one i
search_shift p (suc k) i = ap₂ (λ (n m : ℕ). cond (p n) n m) (add-one i) (search_shift p k (i + 1)) ∙ later (p (suc i)) i (search_on (λ (j : ℕ). p (suc j)) k (i + 1))

-- ---- `any`

all_none : (b : Bool) → b ≡ (b && true)
all_none true = refl
all_none false = refl

any_none : (b : Bool) → b ≡ (b || false)
any_none true = refl
any_none false = refl

module _ {A : Type 0} (p : A → Bool) (d : A) where
  turns_any : (xs : List A) (b : Bool) → turns (λ i found. found || p (get_or xs i d)) (length xs) 0 b ≡ (b || list_any p xs)
  unfolding turns
  turns_any [] b = any_none b
  turns_any (x ∷ xs) b = shifted (λ i found. found || p (get_or (x ∷ xs) i d)) (length xs) 0 (b || p x) ∙ turns_any xs (b || p x) ∙ sym (or_assoc b (p x) (list_any p xs))

  pub for_any : (xs : List A) → for 0 (length xs) (λ i found. found || p (get_or xs i d)) false ≡ list_any p xs
  for_any xs = ap (λ (n : ℕ). turns (λ i found. found || p (get_or xs i d)) n 0 false) (sub-zero (length xs)) ∙ turns_any xs false

-- each element beside the one after it
module _ {A : Type 0} (r : A → A → Bool) (d : A) where
  turns_pairs : (x : A) (xs : List A) (b : Bool) → turns (λ i ok. ok && r (get_or (x ∷ xs) i d) (get_or xs i d)) (length xs) 0 b ≡ (b && list_all (λ q. r q.0 q.1) (zip (x ∷ xs) xs))
  unfolding turns
  turns_pairs x [] b = all_none b
  turns_pairs x (y ∷ ys) b =
      shifted (λ i ok. ok && r (get_or (x ∷ y ∷ ys) i d) (get_or (y ∷ ys) i d)) (length ys) 0 (b && r x y)
      ∙ turns_pairs y ys (b && r x y)
      ∙ sym (and_assoc b (r x y) (list_all (λ q. r q.0 q.1) (zip (y ∷ ys) ys)))

  pub for_pairs : (xs : List A) (b : Bool) → for 1 (length xs) (λ i ok. ok && r (get_or xs (i - 1) d) (get_or xs i d)) b ≡ (b && list_all (λ q. r q.0 q.1) (zip xs (drop 1 xs)))
  unfolding turns
  for_pairs [] b = all_none b
  for_pairs (x ∷ xs) b =
      let k : length (x ∷ xs) - 1 ≡ length xs = omega arith in
      ap (λ (n : ℕ). turns (λ i ok. ok && r (get_or (x ∷ xs) (i - 1) d) (get_or (x ∷ xs) i d)) n 1 b) k
      ∙ shifted (λ i ok. ok && r (get_or (x ∷ xs) (i - 1) d) (get_or (x ∷ xs) i d)) (length xs) 0 b
      ∙ turns_alike (λ i ok. ok && r (get_or (x ∷ xs) (suc i - 1) d) (get_or xs i d)) (λ i ok. ok && r (get_or (x ∷ xs) i d) (get_or xs i d)) 0 (length xs)
      (λ i h l ok. let e : suc i - 1 ≡ i = omega arith in ap (λ (n : ℕ). ok && r (get_or (x ∷ xs) n d) (get_or xs i d)) e)
      (length xs) 0 b (omega arith) (omega arith)
      ∙ turns_pairs x xs b

-- ---- `position`

test_not : (b : Bool) (m : ℕ) → cond b 0 (suc m) ≡ cond (not b) (1 + m) 0
test_not true m = refl
test_not false m = omega arith

searched : {A : Type 0} (p : A → Bool) (d : A) (xs : List A) → search_on (λ i. p (get_or xs i d)) (length xs) 0 ≡ position_or_len p xs
unfolding search_on
searched p d [] = refl
searched p d (x ∷ xs) =
    ap (λ (n : ℕ). cond (p x) 0 n) (search_shift (λ i. p (get_or (x ∷ xs) i d)) (length xs) 0 ∙ ap suc (searched p d xs))
    ∙ test_not (p x) (position_or_len p xs)

searched_pairs : {A B : Type 0} (p : A → B → Bool) (d : A) (e : B) (xs : List A) (ys : List B) → length ys ≡ length xs → search_on (λ i. p (get_or xs i d) (get_or ys i e)) (length xs) 0 ≡ position_or_len (λ q. p q.0 q.1) (zip xs ys)
unfolding search_on
searched_pairs p d e [] ys l = refl
searched_pairs p d e (x ∷ xs) [] l = absurd (omega (arith, l))
searched_pairs p d e (x ∷ xs) (y ∷ ys) l =
    ap (λ (n : ℕ). cond (p x y) 0 n) (search_shift (λ i. p (get_or (x ∷ xs) i d) (get_or (y ∷ ys) i e)) (length xs) 0 ∙ ap suc (searched_pairs p d e xs ys (omega (arith, l))))
    ∙ test_not (p x y) (position_or_len (λ q. p q.0 q.1) (zip xs ys))

-- the first of two columns at which p holds
pub first_pair : {A B : Type 0} (p : A → B → Bool) (d : A) (e : B) (xs : List A) (ys : List B) → length ys ≡ length xs → first (λ i. p (get_or xs i d) (get_or ys i e)) 0 (length xs) ≡ position_or_len (λ q. p q.0 q.1) (zip xs ys)
first_pair p d e xs ys l = ap (λ (n : ℕ). search_on (λ i. p (get_or xs i d) (get_or ys i e)) n 0) (sub-zero (length xs)) ∙ searched_pairs p d e xs ys l

-- the first from the second element on
pub first_later : {A : Type 0} (p : A → Bool) (d : A) (xs : List A) → first (λ i. p (get_or xs i d)) 1 (length xs) ≡ suc (position_or_len p (drop 1 xs))
unfolding search_on
first_later p d [] = refl
first_later p d (x ∷ xs) =
    let k : length (x ∷ xs) - 1 ≡ length xs = omega arith in
    ap (λ (n : ℕ). search_on (λ i. p (get_or (x ∷ xs) i d)) n 1) k ∙ search_shift (λ i. p (get_or (x ∷ xs) i d)) (length xs) 0 ∙ ap suc (searched p d xs)

-- what is found, and what is not
found_by : (b : Bool) (m n i : ℕ) → ltb m n ≡ b → Some i ≡ cond b (Some m) None → (i < n) × (m ≡ i)
found_by true m n i e h = let z : i ≡ m = cc in (omega (arith, z, ltb-true m n e), sym z)
found_by false m n i e h = cc

pub found : {A : Type 0} (p : A → Bool) (xs : List A) {i : ℕ} → Some i ≡ position p xs → (i < length xs) × (position_or_len p xs ≡ i)
found p xs {i} h = found_by (ltb (position_or_len p xs) (length xs)) (position_or_len p xs) (length xs) i refl h

missed_by : (b : Bool) (m n : ℕ) → ltb m n ≡ b → None ≡ cond b (Some m) None → n ≤ m
missed_by true m n e h = cc
missed_by false m n e h = ltb-false m n e

pub missed : {A : Type 0} (p : A → Bool) (xs : List A) → None ≡ position p xs → length xs ≤ position_or_len p xs
missed p xs h = missed_by (ltb (position_or_len p xs) (length xs)) (position_or_len p xs) (length xs) refl h

-- ---- an axis: a test of each value, and one of each two neighbours

cut : (a b t c d e : Bool) → (b && c) ≡ ((b && d) && e) → (a && ((b && t) && c)) ≡ ((a && (b && d)) && (t && e))
cut false b t c d e h = refl
cut true false t c d e h = refl
cut true true true c d e h = h
cut true true false c true e h = refl
cut true true false c false e h = refl

module _ {A : Type 0} (p : A → Bool) (r : A → A → Bool) where
  both_from : (x : A) (xs : List A) → (p x && list_all (λ q. p q.1 && r q.0 q.1) (zip (x ∷ xs) xs)) ≡ ((p x && list_all p xs) && list_all (λ q. r q.0 q.1) (zip (x ∷ xs) xs))
  both_from x [] = all_none (p x && true)
  both_from x (y ∷ ys) = cut (p x) (p y) (r x y) _ (list_all p ys) _ (both_from y ys)

  -- of an axis that has values
  pub each_and_next : (d : A) (xs : List A) → eqb (length xs) 0 ≡ false → (p (get_or xs 0 d) && list_all (λ q. p q.1 && r q.0 q.1) (zip xs (drop 1 xs))) ≡ (list_all p xs && list_all (λ q. r q.0 q.1) (zip xs (drop 1 xs)))
  each_and_next d [] h = false_true (sym h)
  each_and_next d (x ∷ xs) h = both_from x xs
