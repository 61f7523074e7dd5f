-- A loop over the elements of a list, one after the other, is a fold of it; a loop of tests is that each passes. Assumes nothing.
use mathlib.Core.Path.{◌≡◌, refl, ap, ◌∙◌}
use native.Mathlib.Omega.{arith}
use mathlib.Core.Bool.{Bool, true, false, ◌&&◌}
use mathlib.Core.List.{List, [], ◌∷◌}
use Prim.Native.Nat.{ℕ, zero, suc, ◌+◌}
use native.Mathlib.Nat.{sub-zero}
use native.Mathlib.Numerals.{add-one}
use lib.ListN.{length, get_or}
use Rattle.std.specs.List.{fold, list_all, zip}
use Rattle.laws.specs.Loop.{turns, for}

-- the turns from i + 1 on are those from i on, of what is one further
pub shifted : {S : Type 0} (f : ℕ → S → S) (k i : ℕ) (s : S) → turns f k (i + 1) s ≡ turns (λ (j : ℕ). f (suc j)) k i s
unfolding turns
shifted f zero i s = refl
shifted f (suc k) i s = shifted f k (i + 1) (f (i + 1) s) ∙ ap (λ (n : ℕ). turns (λ (j : ℕ). f (suc j)) k (i + 1) (f n s)) (add-one i)

turns_fold : {A S : Type 0} (f : S → A → S) (d : A) (l : List A) (s : S) → turns (λ i s. f s (get_or l i d)) (length l) 0 s ≡ fold f s l
unfolding turns
turns_fold f d [] s = refl
turns_fold f d (x ∷ l) s = shifted (λ i s. f s (get_or (x ∷ l) i d)) (length l) 0 (f s x) ∙ turns_fold f d l (f s x)

pub for_fold : {A S : Type 0} (f : S → A → S) (d : A) (l : List A) (s : S) → for 0 (length l) (λ i s. f s (get_or l i d)) s ≡ fold f s l
for_fold f d l s = ap (λ (n : ℕ). turns (λ i s. f s (get_or l i d)) n 0 s) (sub-zero (length l)) ∙ turns_fold f d l s

module _ {A : Type 0} (p : A → Bool) where
  fold_off : (l : List A) → fold (λ b x. b && p x) false l ≡ false
  fold_off [] = refl
  fold_off (x ∷ l) = fold_off l

  fold_all : (l : List A) → fold (λ b x. b && p x) true l ≡ list_all p l
  fold_all [] = refl
  fold_all (x ∷ l) = go (p x) (fold_all l)
    where
      go : (b : Bool) → fold (λ b x. b && p x) true l ≡ list_all p l → fold (λ b x. b && p x) b l ≡ (b && list_all p l)
      go true h = h
      go false h = fold_off l

  pub for_all : (d : A) (l : List A) → for 0 (length l) (λ i b. b && p (get_or l i d)) true ≡ list_all p l
  for_all d l = for_fold (λ b x. b && p x) d l true ∙ fold_all l

-- ---- the same of three columns of one length

turns_columns :
    {A B C S : Type 0} (f : S → A → B → C → S) (d : A) (e : B) (g : C) (xs : List A) (ys : List B) (zs : List C) → length ys ≡ length xs → length zs ≡ length xs
    → (s : S) → turns (λ i s. f s (get_or xs i d) (get_or ys i e) (get_or zs i g)) (length xs) 0 s ≡ fold (λ s p. f s p.0.0 p.0.1 p.1) s (zip (zip xs ys) zs)
unfolding turns
turns_columns f d e g [] ys zs l m s = refl
turns_columns f d e g (x ∷ xs) [] zs l m s = absurd (omega (arith, l))
turns_columns f d e g (x ∷ xs) (y ∷ ys) [] l m s = absurd (omega (arith, m))
turns_columns f d e g (x ∷ xs) (y ∷ ys) (z ∷ zs) l m s =
    shifted (λ i s. f s (get_or (x ∷ xs) i d) (get_or (y ∷ ys) i e) (get_or (z ∷ zs) i g)) (length xs) 0 (f s x y z)
    ∙ turns_columns f d e g xs ys zs (omega (arith, l)) (omega (arith, m)) (f s x y z)

pub for_columns :
    {A B C S : Type 0} (f : S → A → B → C → S) (d : A) (e : B) (g : C) (xs : List A) (ys : List B) (zs : List C) → length ys ≡ length xs → length zs ≡ length xs
    → (s : S) → for 0 (length xs) (λ i s. f s (get_or xs i d) (get_or ys i e) (get_or zs i g)) s ≡ fold (λ s p. f s p.0.0 p.0.1 p.1) s (zip (zip xs ys) zs)
for_columns f d e g xs ys zs l m s =
    ap (λ (n : ℕ). turns (λ i s. f s (get_or xs i d) (get_or ys i e) (get_or zs i g)) n 0 s) (sub-zero (length xs)) ∙ turns_columns f d e g xs ys zs l m s

pub for_all_columns :
    {A B C : Type 0} (p : A → B → C → Bool) (d : A) (e : B) (g : C) (xs : List A) (ys : List B) (zs : List C) → length ys ≡ length xs → length zs ≡ length xs
    → for 0 (length xs) (λ i b. b && p (get_or xs i d) (get_or ys i e) (get_or zs i g)) true ≡ list_all (λ q. p q.0.0 q.0.1 q.1) (zip (zip xs ys) zs)
for_all_columns p d e g xs ys zs l m = for_columns (λ b x y z. b && p x y z) d e g xs ys zs l m true ∙ fold_all (λ q. p q.0.0 q.0.1 q.1) (zip (zip xs ys) zs)
