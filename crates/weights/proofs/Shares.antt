-- Weights that scale (refusal 5 is not given) lie in (0, 1], and one of them is 1. Assumes nothing.
use mathlib.Core.Path.{◌≡◌, refl, sym, ap, subst, ◌∙◌}
use mathlib.Core.Bool.{Bool, true, false, not, ◌&&◌, ◌||◌, cond}
use mathlib.Core.List.{List, [], ◌∷◌, map}
use Prim.Native.Nat.{ℕ, zero, suc, ◌+◌, ◌*◌, ◌≤◌, ◌<◌}
use native.Mathlib.Omega.{arith}
use native.Mathlib.Nat.{mul-pos, le_of_suc-le-suc, not-suc-le-zero}
use lib.Dec.{T, eqb, ltb}
use lib.IntN.{ℤ, pos}
use lib.ListN.{length, get_or, length-map}
use lib.Ieee.{Float, nan, inf, fin, binary64, up, down, round, div, lt, le, eq, ne, is_nan, of_bits, unlike}
use lib.Ieee.Fits.{and_l, and_r, up_pos, down_pos}
use lib.Ieee.Order.{round_mono}
use lib.Ieee.Scale.{round_same}
use lib.Ieee.Compare.{differs_from_itself}
use borrow.Author.Tests.{ltb-true, eqb-true, eqb-false}
use Rattle.laws.proofs.Signs.{Signed, round_signed}
use Rattle.laws.proofs.Order.{lt_or, lt→le, le_self, le_trans, lt_le_trans}
use Rattle.laws.specs.Floats.{+0, one, at, finite, positive, min_of, max_of}
use Rattle.laws.proofs.Loops.{for_ind, below_next}
use Rattle.weights.specs.Weights.{all_good, top_of, scale_one, scaled_of, cap_of}
use Rattle.weights.proofs.Sorted.{Number}

abbrev over : Float → Float → Float
over x y = div binary64 x y

one_is : round binary64 false 1 1 ≡ one
unfolding round of_bits
one_is = refl

-- no value with a sign is above 0
not_above : (z : Float) → Signed true z → T (lt +0 z) → ⊥
unfolding lt of_bits
not_above nan s h = h
not_above (inf true) s h = h
not_above (inf false) s h = subst T (sym s) tt
not_above (fin true m e) s h = h
not_above (fin false m e) s h = subst T (sym s) tt

size_le : (a b : ℕ) → T (ltb a b || (eqb a b && true)) → a ≤ b
size_le a b h = go (ltb a b) (eqb a b) refl refl h
  where
    go : (x y : Bool) → ltb a b ≡ x → eqb a b ≡ y → T (x || (y && true)) → a ≤ b
    go true y p q t = omega (arith, ltb-true a b p)
    go false true p q t = omega (arith, eqb-true a b q)
    go false false p q t = absurd t

-- ---- a quotient that is positive and finite, over a positive number

-- its divisor is not 0, so that it is a rounded quotient of whole numbers
quotient : (s : Bool) (m : ℕ) (e : ℤ) (n : ℕ) (d : ℤ) → T (positive (over (fin s m e) (fin false n d)))
    → (0 < n) × (over (fin s m e) (fin false n d) ≡ round binary64 (unlike s false) (m * up e * down d) (n * up d * down e))
unfolding div lt le eq of_bits finite
quotient s m e n d g = go (eqb n 0) (eqb m 0) s refl g
  where
    R : Bool → Float
    R u = round binary64 (unlike u false) (m * up e * down d) (n * up d * down e)

    go : (x y u : Bool) → eqb n 0 ≡ x → T (positive (cond x (cond y nan (inf (unlike u false))) (R u)))
        → (0 < n) × (cond x (cond y nan (inf (unlike u false))) (R u) ≡ R u)
    go true true u p h = absurd h
    go true false true p h = absurd h
    go true false false p h = absurd h
    go false y u p h = (let k : n ≡ 0 → ⊥ = eqb-false n 0 p in pos_of n k, refl)
      where
        pos_of : (n : ℕ) → (n ≡ 0 → ⊥) → 0 < n
        pos_of zero f = absurd (f refl)
        pos_of (suc n) f = omega arith

le_one : (x y : Float) → T (lt +0 y) → T (positive (over x y)) → T (le x y) → T (le (over x y) one)
unfolding div lt le eq of_bits finite
le_one nan y p g h = absurd g
le_one (inf s) nan p g h = absurd g
le_one (inf s) (inf t) p g h = absurd g
le_one (inf true) (fin true n d) p g h = absurd p
le_one (inf false) (fin true n d) p g h = absurd p
le_one (inf true) (fin false n d) p g h = absurd g
le_one (inf false) (fin false n d) p g h = absurd g
le_one (fin s m e) nan p g h = absurd p
le_one (fin s m e) (inf true) p g h = absurd p
le_one (fin true m e) (inf false) p g h = absurd g
le_one (fin false m e) (inf false) p g h = absurd g
le_one (fin s m e) (fin true n d) p g h = absurd p
le_one (fin true m e) (fin false n d) p g h =
    let a = m * up e * down d in
    let b = n * up d * down e in
    let q = (quotient true m e n d g).1 in
    absurd (not_above (round binary64 true a b) (round_signed binary64 true a b) (subst (λ (z : Float). T (lt +0 z)) q (and_r (finite (over (fin true m e) (fin false n d))) _ g)))
le_one (fin false m e) (fin false n d) p g h =
    let a = m * up e * down d in
    let b = n * up d * down e in
    let q = quotient false m e n d g in
    let B : 0 < b = mul-pos (mul-pos {m = n} {n = up d} q.0 (up_pos d)) (down_pos e) in
    let l = size_le a b h in
    rw q.1 (subst (λ (z : Float). T (le (round binary64 false a b) z)) one_is (round_mono binary64 a b 1 1 B (omega arith) (omega arith)))

is_one : (y : Float) → T (lt +0 y) → T (positive (over y y)) → over y y ≡ one
unfolding div lt le eq of_bits finite
is_one nan p g = absurd p
is_one (inf s) p g = absurd g
is_one (fin true n d) p g = absurd p
is_one (fin false n d) p g =
    let b = n * up d * down d in
    let q = quotient false n d n d g in
    let B : 0 < b = mul-pos (mul-pos {m = n} {n = up d} q.0 (up_pos d)) (down_pos d) in
    q.1 ∙ round_same binary64 false b b 1 1 B (omega arith) (omega arith) ∙ one_is

-- ---- the largest capped weight

-- what is above something, or something is below, is a number
above_number : (x y : Float) → T (lt x y) → Number y
unfolding lt is_nan
above_number nan y h = absurd h
above_number (inf s) nan h = absurd h
above_number (inf s) (inf t) h = tt
above_number (inf s) (fin t n d) h = tt
above_number (fin s m e) nan h = absurd h
above_number (fin s m e) (inf t) h = tt
above_number (fin s m e) (fin t n d) h = tt

zero_number : Number +0
unfolding is_nan of_bits
zero_number = tt

same_is : (t : Float) → Number t → ne t t ≡ true → ⊥
unfolding is_nan
same_is t n h = go (differs_from_itself t (subst T (sym h) tt))
  where
    go : t ≡ nan → ⊥
    go e = subst (λ (x : Float). T (not (is_nan x))) e n

-- `max_of` of a number t: v where v is larger, and t else
max_is : (P : Float → Type 0) (t v : Float) → Number t → (T (lt t v) → P v) → (T (not (lt t v)) → P t) → P (max_of t v)
unfolding max_of
max_is P t v n f g = go (lt t v) (ne t t) refl f g
  where
    go : (x y : Bool) → ne t t ≡ y → (T x → P v) → (T (not x) → P t) → P (cond (x || y) v t)
    go true y e p q = p tt
    go false true e p q = absurd (same_is t n e)
    go false false e p q = q tt

module _ (cap : Float) (weights : List Float) where
  abbrev v : ℕ → Float
  v j = min_of (at weights j) cap

  -- of the first i: 0, or one of them, and that is above 0
  data Top (i : ℕ) (t : Float) : Type 0 where
    none : t ≡ +0 → Top i t
    some : (j : ℕ) → j < i → t ≡ v j → T (lt +0 t) → Top i t

  top_number : (i : ℕ) (t : Float) → Top i t → Number t
  top_number i t (none e) = subst Number (sym e) zero_number
  top_number i t (some j l e p) = above_number +0 t p

  longer : (i : ℕ) (t : Float) → Top i t → Top (i + 1) t
  longer i t (none e) = none e
  longer i t (some j l e p) = some j (omega arith) e p

  above_zero : (i : ℕ) (t x : Float) → Top i t → T (lt t x) → T (lt +0 x)
  above_zero i t x (none e) l = subst (λ (y : Float). T (lt y x)) e l
  above_zero i t x (some j k e p) l = lt_le_trans +0 t x p (lt→le t x l)

  -- and each of the first i that is a number is at most that
  record Largest (i : ℕ) (t : Float) : Type 0 where
    top : Top i t
    most : (j : ℕ) → j < i → Number (v j) → T (le (v j) t)

  larger : (i : ℕ) (t : Float) → i < length weights → Largest i t → Largest (i + 1) (max_of t (v i))
  larger i t l h =
      let n = top_number i t h.top in
      record {
        top = max_is (Top (i + 1)) t (v i) n (λ l. some i (omega arith) refl (above_zero i t (v i) h.top l)) (λ l. longer i t h.top);
        most =
            below_next (λ (j : ℕ). Number (v j) → T (le (v j) (max_of t (v i)))) i
            (λ j k m. max_is (λ (x : Float). T (le (v j) x)) t (v i) n (λ g. le_trans (v j) t (v i) m (above_number t (v i) g) (h.most j k m) (lt→le t (v i) g)) (λ g. h.most j k m))
            (λ m. max_is (λ (x : Float). T (le (v i) x)) t (v i) n (λ g. le_self (v i) m) (λ g. not_not (v i) t m n g));
      }
    where
      not_not : (x y : Float) → Number x → Number y → T (not (lt y x)) → T (le x y)
      not_not x y p q h = go (le x y) (lt_or x y p q) h
        where
          yes_no : (b : Bool) → T b → T (not b) → ⊥
          yes_no true a c = c
          yes_no false a c = a

          go : (b : Bool) → (T (not b) → T (lt y x)) → T (not (lt y x)) → T b
          go true f h = tt
          go false f h = absurd (yes_no (lt y x) (f tt) h)

  largest : Largest (length weights) (top_of cap weights)
  unfolding top_of
  largest = for_ind (λ i t. max_of t (v i)) Largest (length weights) larger +0 (record { top = none refl; most = λ j l. absurd (not-suc-le-zero l) })

-- ---- the scaled weights

-- a list that passes check 5 passes it at each place
good_at : (l : List Float) → T (all_good l) → (j : ℕ) → j < length l → T (positive (at l j))
unfolding all_good
good_at l = for_ind (λ i b. b && positive (at l i)) (λ (i : ℕ) (b : Bool). T b → (j : ℕ) → j < i → T (positive (at l j))) (length l) one_more true (λ t j h. absurd (not-suc-le-zero h))
  where
    one_more : (i : ℕ) (b : Bool) → i < length l → (T b → (j : ℕ) → j < i → T (positive (at l j))) → T (b && positive (at l i)) → (j : ℕ) → j < i + 1 → T (positive (at l j))
    one_more i b k h t = below_next (λ (j : ℕ). T (positive (at l j))) i (h (and_l b _ t)) (and_r b _ t)

map_at : (f : Float → Float) (l : List Float) (n : ℕ) → n < length l → get_or (map f l) n nan ≡ f (get_or l n nan)
map_at f [] n h = absurd (not-suc-le-zero h)
map_at f (x ∷ xs) zero h = refl
map_at f (x ∷ xs) (suc n) h = map_at f xs n (le_of_suc-le-suc h)

over_zero : (x : Float) → T (positive (over x +0)) → ⊥
unfolding div lt le eq of_bits finite
over_zero nan g = g
over_zero (inf true) g = g
over_zero (inf false) g = g
over_zero (fin s m e) g = absurd (not-suc-le-zero (quotient s m e 0 (pos 0) g).0)

over_number : (x y : Float) → T (positive (over x y)) → Number x
unfolding div lt le eq of_bits finite is_nan
over_number nan y g = absurd g
over_number (inf s) y g = tt
over_number (fin s m e) y g = tt

pub record Shares (l : List Float) : Type 0 where
  pub above : (i : ℕ) → i < length l → T (lt +0 (at l i))
  pub most : (i : ℕ) → i < length l → T (le (at l i) one)
  pub whole : ℕ
  pub within : whole < length l
  pub is_one : at l whole ≡ one

pub shares : (ratio : Float) (weights : List Float) → 0 < length weights → T (all_good (scaled_of ratio weights)) → Shares (scaled_of ratio weights)
shares ratio weights some_one all = go (largest cap weights).top
  where
    cap : Float
    cap = cap_of ratio weights

    n : ℕ
    n = length weights

    top : Float
    top = top_of cap weights

    l : List Float
    l = scaled_of ratio weights

    long : length l ≡ n
    long = length-map weights (scale_one cap top)

    at_is : (i : ℕ) → i < n → at l i ≡ over (v cap weights i) top
    at_is i h = map_at (scale_one cap top) weights i h

    good_is : (i : ℕ) → i < n → T (positive (over (v cap weights i) top))
    good_is i h = subst (λ (x : Float). T (positive x)) (at_is i h) (good_at l all i (rw long h))

    go : Top cap weights n top → Shares l
    go (none e) = absurd (over_zero (v cap weights 0) (subst (λ (y : Float). T (positive (over (v cap weights 0) y))) e (good_is 0 some_one)))
    go (some j h e p) =
        record {
          above = λ i k. rw (at_is i (rw long at k)) (and_r (finite (over (v cap weights i) top)) _ (good_is i (rw long at k)));
          most =
              λ i k.
              let g = good_is i (rw long at k) in
              rw (at_is i (rw long at k)) (le_one (v cap weights i) top p g ((largest cap weights).most i (rw long at k) (over_number (v cap weights i) top g)));
          whole = j;
          within = rw long h;
          is_one =
              at_is j h ∙ ap (λ (x : Float). over x top) (sym e)
              ∙ is_one top p (subst (λ (x : Float). T (positive (over x top))) (sym e) (good_is j h));
        }
