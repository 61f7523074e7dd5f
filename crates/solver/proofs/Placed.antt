-- A 6 by 6 system put into six rows of eight stands there, and the unknowns taken out of them are the plain answer's. Assumes nothing.
use mathlib.Core.Path.{◌≡◌, refl, sym, ap, ap₂, subst, ◌∙◌}
use mathlib.Core.Bool.{Bool, true, false}
use mathlib.Core.List.{List}
use Prim.Native.Nat.{ℕ, ◌+◌, ◌-◌, ◌*◌, ◌≤◌, ◌<◌}
use native.Mathlib.Omega.{arith}
use lib.Dec.{ltb}
use lib.ListN.{length, set, get_or, replicate, length-set, length-replicate, get_or-replicate}
use lib.Seq.{get_or-set_same, get_or-set_other, ext_get_or}
use lib.Ieee.{Float, nan}
use borrow.Author.Tests.{ltb-true, ltb-false}
use Rattle.laws.specs.Loop.{for}
use Rattle.laws.specs.Floats.{+0, at}
use Rattle.laws.proofs.Loops.{for_ind, for_keeps, below_next}
use Rattle.solver.specs.declared.Solved.{Solved}
use Rattle.solver.specs.Solve.{entry, refused}
use Rattle.solver.specs.Rows.{Room, spot, placed_row, placed_of, front_of}
use Rattle.solver.proofs.Views.{Stands, Found}
use Rattle.solver.proofs.Solutions.{Sound}

-- ---- v j put into place p j, for each j below n

module _ {A : Type 0} (p : ℕ → ℕ) (v : ℕ → A) (n : ℕ) where
  -- the list after it
  abbrev spread : List A → List A
  spread t = for 0 n (λ j t. set t (p j) (v j)) t

  -- it is as long as it was
  spread_length : (t : List A) → length (spread t) ≡ length t
  spread_length t = for_keeps (λ (u : List A). length u ≡ length t) _ n (λ j l u e. length-set u (p j) (v j) ∙ e) t refl

  -- any other place is as it was
  spread_other : (d : A) (t : List A) (k : ℕ) → ((j : ℕ) → j < n → k ≡ p j → ⊥) → get_or (spread t) k d ≡ get_or t k d
  spread_other d t k apart = for_keeps (λ (u : List A). get_or u k d ≡ get_or t k d) _ n (λ j l u e. get_or-set_other u (p j) k (v j) d (apart j l) ∙ e) t refl

  -- places that differ each hold their value
  spread_at : (d : A) (t : List A) → ((i j : ℕ) → i < j → p i ≡ p j → ⊥) → ((j : ℕ) → j < n → p j < length t) → (j : ℕ) → j < n → get_or (spread t) (p j) d ≡ v j
  spread_at d t apart within =
      (for_ind _ (λ (q : ℕ) (u : List A). (length u ≡ length t) × ((i : ℕ) → i < q → get_or u (p i) d ≡ v i)) n
      (λ q u l h. (
        length-set u (p q) (v q) ∙ h.0,
        below_next (λ (i : ℕ). get_or (set u (p q) (v q)) (p i) d ≡ v i) q (λ i b. get_or-set_other u (p q) (p i) (v q) d (apart i q b) ∙ h.1 i b)
            (get_or-set_same u (p q) (v q) d (omega (arith, within q l, h.0))),
      ))
      t (refl, λ i l. absurd (omega arith))).1

-- ---- the system

module _ (n o : ℕ) (m rhs : List Float) (six : n + o ≡ 6) where
  -- row i in its place
  abbrev row_at : ℕ → List Float → List Float
  row_at i t = spread (λ j. (o + i) * 8 + (o + j)) (λ j. at m (i * 6 + j)) n t

  -- and its right side
  abbrev side_at : ℕ → List Float → List Float
  side_at i t = set (row_at i t) ((o + i) * 8 + 6) (at rhs i)

  -- the first i rows stand
  record Rows (i : ℕ) (t : List Float) : Type 0 where
    long : length t ≡ 48
    entries : (a : ℕ) → a < i → (j : ℕ) → j < n → entry m a j ≡ spot t (a + o) (j + o)
    rights : (a : ℕ) → a < i → at rhs a ≡ spot t (a + o) 6

  -- a place before row i is as it was
  kept : (i : ℕ) (t : List Float) (k : ℕ) → i < n → k < (o + i) * 8 → at t k ≡ at (side_at i t) k
  kept i t k l h =
      sym
      (get_or-set_other (row_at i t) ((o + i) * 8 + 6) k (at rhs i) nan (λ e. omega arith)
      ∙ spread_other (λ j. (o + i) * 8 + (o + j)) (λ j. at m (i * 6 + j)) n nan t k (λ j b e. omega arith))

  -- one row more
  row_step : (i : ℕ) (t : List Float) → i < n → Rows i t → Rows (i + 1) (side_at i t)
  row_step i t l p =
      record {
        long = length-set (row_at i t) ((o + i) * 8 + 6) (at rhs i) ∙ long;
        entries =
            below_next (λ (a : ℕ). (j : ℕ) → j < n → entry m a j ≡ spot (side_at i t) (a + o) (j + o)) i
            (λ a b j h. p.entries a b j h ∙ kept i t ((a + o) * 8 + (j + o)) l (omega arith)) here;
        rights =
            below_next (λ (a : ℕ). at rhs a ≡ spot (side_at i t) (a + o) 6) i (λ a b. p.rights a b ∙ kept i t ((a + o) * 8 + 6) l (omega arith))
            (subst (λ (k : ℕ). at rhs i ≡ at (side_at i t) (k * 8 + 6)) turn (sym (get_or-set_same (row_at i t) ((o + i) * 8 + 6) (at rhs i) nan (omega (arith, long)))));
      }
    where
      turn : o + i ≡ i + o
      turn = omega arith

      long : length (row_at i t) ≡ 48
      long = spread_length (λ j. (o + i) * 8 + (o + j)) (λ j. at m (i * 6 + j)) n t ∙ p.long

      here : (j : ℕ) → j < n → entry m i j ≡ spot (side_at i t) (i + o) (j + o)
      here j h =
          let e : (o + i) * 8 + (o + j) ≡ (i + o) * 8 + (j + o) = omega arith in
          subst (λ (k : ℕ). entry m i j ≡ at (side_at i t) k) e
          (sym
          (get_or-set_other (row_at i t) ((o + i) * 8 + 6) ((o + i) * 8 + (o + j)) (at rhs i) nan (λ z. omega arith)
          ∙ spread_at (λ j. (o + i) * 8 + (o + j)) (λ j. at m (i * 6 + j)) n nan t (λ a b u z. omega arith) (λ a u. omega (arith, p.long)) j h))

  -- all of them, in an empty room
  abbrev placed_at : List Float
  placed_at = for 0 n side_at (replicate 48 +0)

  -- every row stands
  rows_stand : Rows n placed_at
  rows_stand =
      for_ind side_at Rows n row_step (replicate 48 +0)
      (record { long = length-replicate 48 +0; entries = λ a l. absurd (omega arith); rights = λ a l. absurd (omega arith) })

  -- the definition's o is what 6 is above n
  placed_here : placed_at ≡ placed_of n m rhs
  unfolding placed_of placed_row
  placed_here =
      let e : o ≡ 6 - n = omega arith in
      ap (λ (o : ℕ). for 0 n (λ i t. set (for 0 n (λ j t. set t ((o + i) * 8 + (o + j)) (at m (i * 6 + j))) t) ((o + i) * 8 + 6) (at rhs i)) (replicate 48 +0)) e

  -- the system stands in the rows
  pub placed_stands : Stands n o m rhs (placed_of n m rhs)
  placed_stands =
      subst (Stands n o m rhs) placed_here
      (record { entries = λ i j l h. rows_stand.entries i l j h; rights = rows_stand.rights })

  -- which are six of eight
  pub placed_length : length (placed_of n m rhs) ≡ 48
  placed_length = sym (ap (λ (t : List Float). length t) placed_here) ∙ rows_stand.long

-- ---- the unknowns

module _ (n o : ℕ) (x y : List Float) (six : n + o ≡ 6) (values : (i : ℕ) → i < n → at y i ≡ at x (i + o)) where
  -- the definition, as a spread
  abbrev taken : List Float
  taken = spread (λ i. i) (λ i. at x (6 - n + i)) n (replicate 6 +0)

  -- six numbers
  first_length : length (front_of n x) ≡ 6
  unfolding front_of
  first_length = spread_length (λ i. i) (λ i. at x (6 - n + i)) n (replicate 6 +0) ∙ length-replicate 6 +0

  -- each is the plain answer's
  first_at : ((i : ℕ) → n ≤ i → i < 6 → at y i ≡ +0) → (i : ℕ) → i < 6 → at (front_of n x) i ≡ at y i
  unfolding front_of
  first_at beyond i l = go (ltb i n) refl
    where
      go : (b : Bool) → ltb i n ≡ b → at taken i ≡ at y i
      go true h =
          let u = ltb-true i n h in
          let e : 6 - n + i ≡ i + o = omega arith in
          spread_at (λ i. i) (λ i. at x (6 - n + i)) n nan (replicate 6 +0) (λ a b w z. omega arith) (λ a w. omega (arith, length-replicate 6 +0)) i u ∙ ap (at x) e ∙ sym (values i u)
      go false h =
          let u = ltb-false i n h in
          spread_other (λ i. i) (λ i. at x (6 - n + i)) n nan (replicate 6 +0) i (λ j w z. omega arith) ∙ get_or-replicate 6 i +0 nan l ∙ sym (beyond i u l)

-- what is found in the rows is the plain answer
pub first_found : (n o : ℕ) (s : Solved) (u : Room) → n + o ≡ 6 → Found n o s u → Sound n s → s.ok ≡ true → record { x = front_of n u.m; ok = true; updates = s.updates } ≡ s
first_found n o s u six f p h =
    let long = first_length n o u.m s.x six (f.values h) in
    let same = ext_get_or nan (front_of n u.m) s.x (long ∙ sym p.six) (λ i l. first_at n o u.m s.x six (f.values h) p.beyond i (omega (arith, long))) in
    ap₂ (λ (x : List Float) (ok : Bool). record { x = x; ok = ok; updates = s.updates }) same (sym h)

-- and a refusal is the plain one
pub none_found : (n : ℕ) (s : Solved) → Sound n s → s.ok ≡ false → refused s.updates ≡ s
none_found n s p h =
    let same = ext_get_or nan (replicate 6 +0) s.x (length-replicate 6 +0 ∙ sym p.six) (λ i l. get_or-replicate 6 i +0 nan l ∙ sym (p.none h i l)) in
    ap₂ (λ (x : List Float) (ok : Bool). record { x = x; ok = ok; updates = s.updates }) same (sym h)
