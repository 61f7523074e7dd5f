-- The sorted weights rise, and are the same weights, each as often; the median is their middle.
use mathlib.Core.Path.{◌≡◌, refl, ap, ◌∙◌}
use mathlib.Core.Bool.{Bool, true, false, not, cond}
use mathlib.Core.List.{List, [], ◌∷◌}
use Prim.Native.Nat.{ℕ, suc, ◌+◌, ◌*◌, ◌-◌, ◌/◌, ◌%◌, ◌<◌}
use native.Mathlib.Omega.{arith}
use lib.Dec.{T}
use lib.ListN.{length}
use lib.Ieee.{Float, lt, le, is_nan}
use borrow.Author.Tests.{eq-eqb, ne_eqb}
use Rattle.laws.specs.Floats.{at}
use Rattle.laws.proofs.Order.{lt_or, lt→le, le_self, le_trans}
use Rattle.laws.proofs.Choices.{cond_ind}
use Rattle.weights.specs.Weights.{insert_of, sort_of, lesser, greater, between, mid_of, median_of}

abbrev pub Number : Float → Type 0
Number x = T (not (is_nan x))

-- P of each element
unfoldable pub Each : (Float → Type 0) → List Float → Type 0
Each P [] = Unit
Each P (x ∷ xs) = P x × Each P xs

-- no element is above a later one
unfoldable pub Rising : List Float → Type 0
Rising [] = Unit
Rising (x ∷ xs) = Each (λ (y : Float). T (le x y)) xs × Rising xs

-- how many elements pass a test
unfoldable pub count : (Float → Bool) → List Float → ℕ
count t [] = 0
count t (x ∷ xs) = cond (t x) 1 0 + count t xs

-- what holds at each place holds of each element
pub each_at : (P : Float → Type 0) (l : List Float) → ((i : ℕ) → i < length l → P (at l i)) → Each P l
unfolding Each
each_at P [] h = tt
each_at P (x ∷ xs) h = (h 0 (omega arith), each_at P xs (λ i k. h (suc i) (omega arith)))

-- ---- what holds of each weight holds of each sorted one

each_insert : (P : Float → Type 0) (x : Float) (ys : List Float) → P x → Each P ys → Each P (insert_of x ys)
unfolding insert_of Each
each_insert P x [] p h = (p, h)
each_insert P x (y ∷ ys) p h = (cond_ind P (lt x y) p h.0, each_insert P (greater x y) ys (cond_ind P (lt x y) h.0 p) h.1)

each_sort : (P : Float → Type 0) (weights : List Float) → Each P weights → Each P (sort_of weights)
unfolding sort_of Each
each_sort P [] h = tt
each_sort P (w ∷ weights) h = each_insert P w (sort_of weights) h.0 (each_sort P weights h.1)

each_both : (P Q R : Float → Type 0) → ((z : Float) → P z → Q z → R z) → (ys : List Float) → Each P ys → Each Q ys → Each R ys
unfolding Each
each_both P Q R f [] p q = tt
each_both P Q R f (y ∷ ys) p q = (f y p.0 q.0, each_both P Q R f ys p.1 q.1)

-- ---- it rises

ordered : (x y : Float) → Number x → Number y → T (le (lesser x y) (greater x y))
ordered x y p q = go (lt x y) (lt→le x y) (lt_or y x q p)
  where
    yes_or : (t : Bool) → (T (not t) → ⊥) → T t
    yes_or true h = tt
    yes_or false h = absurd (h tt)

    go : (b : Bool) → (T b → T (le x y)) → (T (not (le y x)) → T b) → T (le (cond b x y) (cond b y x))
    go true h k = h tt
    go false h k = yes_or (le y x) k

lesser_le : (x y : Float) → Number y → T (le (lesser x y) y)
lesser_le x y q = go (lt x y) (lt→le x y)
  where
    go : (b : Bool) → (T b → T (le x y)) → T (le (cond b x y) y)
    go true h = h tt
    go false h = le_self y q

rising_insert : (x : Float) (ys : List Float) → Number x → Each Number ys → Rising ys → Rising (insert_of x ys)
unfolding insert_of Each Rising
rising_insert x [] p n h = (tt, tt)
rising_insert x (y ∷ ys) p n h =
    let l = lesser x y in
    let nl : Number l = cond_ind Number (lt x y) p n.0 in
    let ng : Number (greater x y) = cond_ind Number (lt x y) n.0 p in (
      each_insert (λ (z : Float). T (le l z)) (greater x y) ys (ordered x y p n.0)
          (each_both (λ (z : Float). T (le y z)) Number (λ (z : Float). T (le l z)) (λ z a b. le_trans l y z nl b (lesser_le x y n.0) a) ys h.0 n.1),
      rising_insert (greater x y) ys ng n.1 h.1,
    )

-- of weights none of which is NaN
pub rising_sort : (weights : List Float) → Each Number weights → Rising (sort_of weights)
unfolding sort_of Each Rising
rising_sort [] h = tt
rising_sort (w ∷ weights) h = rising_insert w (sort_of weights) h.0 (each_sort Number weights h.1) (rising_sort weights h.1)

-- ---- each is there as often, whatever is counted

count_insert : (t : Float → Bool) (x : Float) (ys : List Float) → count t (insert_of x ys) ≡ count t (x ∷ ys)
unfolding insert_of count
count_insert t x [] = refl
count_insert t x (y ∷ ys) = rw (count_insert t (greater x y) ys) (go (lt x y))
  where
    go : (b : Bool) → cond (t (cond b x y)) 1 0 + (cond (t (cond b y x)) 1 0 + count t ys) ≡ cond (t x) 1 0 + (cond (t y) 1 0 + count t ys)
    go true = refl
    go false = omega arith

pub count_sort : (t : Float → Bool) (weights : List Float) → count t (sort_of weights) ≡ count t weights
unfolding sort_of count
count_sort t [] = refl
count_sort t (w ∷ weights) = count_insert t w (sort_of weights) ∙ ap (λ n. cond (t w) 1 0 + n) (count_sort t weights)

-- ---- the median is the middle: of 2 h + 1 weights the one at h, of 2 h half way between the two

pub median_odd : (weights : List Float) (h : ℕ) → length weights ≡ 2 * h + 1 → median_of weights ≡ at (sort_of weights) h
unfolding mid_of
median_odd weights h e =
    let n = length weights in
    let half : n / 2 ≡ h = omega arith in
    rw (ne_eqb (n % 2) 0 (λ z. omega arith), half)

pub median_even : (weights : List Float) (h : ℕ) → length weights ≡ 2 * h → median_of weights ≡ between (at (sort_of weights) (h - 1)) (at (sort_of weights) h)
unfolding mid_of
median_even weights h e =
    let n = length weights in
    let half : n / 2 ≡ h = omega arith in
    rw (eq-eqb (n % 2) 0 (omega arith), half)
