-- The substitution back in six rows of eight finds what the plain one finds. Assumes nothing.
use mathlib.Core.Path.{◌≡◌, refl, sym, ap, ap₂, subst, ◌∙◌}
use mathlib.Core.Bool.{Bool, true, false, cond}
use mathlib.Core.List.{List}
use Prim.Native.Nat.{ℕ, ◌+◌, ◌-◌, ◌≤◌, ◌<◌}
use mathlib.Core.Logic.{⊎_elim}
use native.Mathlib.Nat.{add-zero, eq-or-lt_of_le}
use native.Mathlib.Omega.{arith}
use lib.ListN.{length, set, replicate, length-set, length-replicate}
use lib.Seq.{get_or-set_same, get_or-set_other}
use lib.Ieee.{Float, nan}
use Rattle.laws.specs.Floats.{◌+f◌, ◌-f◌, ◌*f◌, ◌/f◌, +0, at, finite}
use Rattle.laws.proofs.Choices.{false_true}
use Rattle.solver.specs.declared.Solved.{Solved}
use Rattle.solver.specs.Solve.{entry, refused, right_sum, with_value, back_row_of, back_of}
use Rattle.solver.specs.Rows.{Room, room, spot, tail_in, value_in, back_row_in, back_in}
use Rattle.solver.proofs.Views.{Stepped, Found}
use Rattle.solver.proofs.Segments.{for_both}

-- ---- one row

-- the unknowns from place row on agree
abbrev Agree : ℕ → ℕ → ℕ → List Float → List Float → Type 0
Agree n o row x y = (i : ℕ) → row ≤ i → i < n → at x i ≡ at y (i + o)

-- both answers, of which the unknowns from place row on are found
record Both (n o row : ℕ) (s : Solved) (u : Room) : Type 0 where
  same : s.ok ≡ u.ok
  plain : length s.x ≡ 6
  rows : length u.m ≡ 6
  values : s.ok ≡ true → Agree n o row s.x u.m

module _ (n o : ℕ) (m rhs t : List Float) (six : n + o ≡ 6) (st : Stepped n o m rhs t) where
  -- the same sum right of the diagonal
  tails : (row : ℕ) (x y : List Float) → row < n → Agree n o (row + 1) x y → right_sum n m x row ≡ tail_in t y (row + o)
  unfolding right_sum tail_in
  tails row x y l a =
      for_both (λ j tail. tail +f entry m row j *f at x j) (λ j tail. tail +f spot t (row + o) j *f at y j) (λ (j : ℕ) (v w : Float). v ≡ w) (row + 1) n o
      (λ j v w h u e. ap₂ (λ (c d : Float). v +f c *f d) (st.entries row j (omega arith) (omega arith)) (a j (omega arith) (omega arith)) ∙ ap (λ (v : Float). v +f spot t (row + o) (j + o) *f at y (j + o)) e)
      (row + o + 1) 6 +0 +0 (omega arith) (omega arith) (omega arith) refl

  -- the plain value of a row
  abbrev value_of : List Float → ℕ → Float
  value_of x row = (at rhs row -f right_sum n m x row) /f entry m row row

  -- is the rows' value
  same_value : (row : ℕ) (x y : List Float) → row < n → Agree n o (row + 1) x y → value_of x row ≡ value_in t y (row + o)
  same_value row x y l a = ap₂ ◌/f◌ (ap₂ ◌-f◌ (st.rights row l) (tails row x y l a)) (st.entries row row (omega arith) l)

  -- a value in its place, in both
  put : (row : ℕ) (x y : List Float) (v w : Float) → row < n → v ≡ w → length x ≡ 6 → length y ≡ 6 → Agree n o (row + 1) x y → Agree n o row (set x row v) (set y (row + o) w)
  put row x y v w l e p q a i h u =
      ⊎_elim
      (λ (d : row ≡ i).
      subst (λ (i : ℕ). at (set x row v) i ≡ at (set y (row + o) w) (i + o)) d
      (get_or-set_same x row v nan (omega arith) ∙ e ∙ sym (get_or-set_same y (row + o) w nan (omega arith))))
      (λ d.
      get_or-set_other x row i v nan (λ z. omega arith) ∙ a i (omega arith) u ∙ sym (get_or-set_other y (row + o) (i + o) w nan (λ z. omega arith)))
      (eq-or-lt_of_le h)

  -- one row more
  one_row : (row : ℕ) (s : Solved) (u : Room) → row < n → Both n o (row + 1) s u → Both n o row (back_row_of n m rhs row s) (back_row_in t (row + o) u)
  unfolding back_row_of back_row_in with_value
  one_row row s u l p = go s.ok u.ok refl refl
    where
      v : Float
      v = value_of s.x row

      w : Float
      w = value_in t u.m (row + o)

      found : (b : Bool) → finite v ≡ b → v ≡ w → s.ok ≡ true → Both n o row (cond b (record { ok = true; x = set s.x row v; updates = s.updates }) (refused s.updates)) (room (finite w) (set u.m (row + o) w))
      found true f e h =
          record {
            same = sym f ∙ ap finite e;
            plain = length-set s.x row v ∙ p.plain;
            rows = length-set u.m (row + o) w ∙ p.rows;
            values = λ k. put row s.x u.m v w l e p.plain p.rows (p.values h);
          }
      found false f e h =
          record { same = sym f ∙ ap finite e; plain = length-replicate 6 +0; rows = length-set u.m (row + o) w ∙ p.rows; values = λ k. false_true k }

      go : (b c : Bool) → s.ok ≡ b → u.ok ≡ c → Both n o row (cond b (with_value row v s) s) (cond c (room (finite w) (set u.m (row + o) w)) u)
      go true true h k = found (finite v) refl (same_value row s.x u.m l (p.values h)) h
      go false false h k = record { same = p.same; plain = p.plain; rows = p.rows; values = λ z. false_true (sym h ∙ z) }
      go true false h k = false_true (sym k ∙ sym p.same ∙ h)
      go false true h k = false_true (sym h ∙ p.same ∙ k)

  -- every row
  all_rows : (x : List Float) (updates : ℕ) → length x ≡ 6 → Both n o 0 (back_of n m rhs updates) (back_in n t x)
  unfolding back_of back_in
  all_rows x updates six-x =
      let e : n - n ≡ 0 = omega arith in
      subst (λ (row : ℕ). Both n o row (back_of n m rhs updates) (back_in n t x)) e
      (for_both (λ k s. back_row_of n m rhs (n - 1 - k) s) (λ k u. back_row_in t (5 - k) u) (λ k s u. Both n o (n - k) s u) 0 n 0
      (λ k s u h l p. rw add-zero (step k s u l p)) 0 n (record { ok = true; x = replicate 6 +0; updates = updates }) (room true x) (omega arith) (omega arith) (omega arith)
      (record { same = refl; plain = length-replicate 6 +0; rows = six-x; values = λ z. none }))
    where
      none : Agree n o (n - 0) (replicate 6 +0) x
      none i h l = absurd (omega arith)

      step : (k : ℕ) (s : Solved) (u : Room) → k < n → Both n o (n - k) s u → Both n o (n - (k + 1)) (back_row_of n m rhs (n - 1 - k) s) (back_row_in t (5 - k) u)
      step k s u l p =
          let a : n - k ≡ n - 1 - k + 1 = omega arith in
          let b : n - 1 - k ≡ n - (k + 1) = omega arith in
          let d : n - 1 - k + o ≡ 5 - k = omega arith in
          let r = one_row (n - 1 - k) s u (omega arith) (subst (λ (q : ℕ). Both n o q s u) a p) in
          let z = subst (λ (q : ℕ). Both n o q (back_row_of n m rhs (n - 1 - k) s) (back_row_in t (n - 1 - k + o) u)) b r in
          subst (λ (q : ℕ). Both n o (n - (k + 1)) (back_row_of n m rhs (n - 1 - k) s) (back_row_in t q u)) d z

-- the whole substitution
pub backed : (n o : ℕ) (m rhs t x : List Float) (updates : ℕ) → n + o ≡ 6 → length x ≡ 6 → Stepped n o m rhs t → Found n o (back_of n m rhs updates) (back_in n t x)
backed n o m rhs t x updates six six-x st =
    let b = all_rows n o m rhs t six st x updates six-x in
    record { same = b.same; values = λ h i l. b.values h i (omega arith) l }
