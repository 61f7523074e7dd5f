-- A NaN pivot passes the test, the elimination goes on and counts every row below, and no solution comes out. Assumes nothing.
-- Why none comes out: the NaN stands on the diagonal, later columns change only the rows below it, and in the substitution back its row's value is something over a NaN.
use mathlib.Core.Path.{◌≡◌, refl, sym, ap, subst, ◌∙◌}
use mathlib.Core.Bool.{Bool, true, false, ◌&&◌, cond}
use mathlib.Core.List.{List}
use Prim.Native.Nat.{ℕ, ◌+◌, ◌-◌, ◌*◌, ◌≤◌, ◌<◌}
use native.Mathlib.Omega.{arith}
use lib.Dec.{ltb, leb}
use lib.ListN.{length, set, replicate, length-set, get_or-eq_default}
use lib.Seq.{get_or-set_same, get_or-set_other}
use lib.Ieee.{Float, nan, inf, fin, le, lt, eq, div, is_nan}
use borrow.Author.Tests.{ltb-true, ltb-false, leb-true}
use Rattle.laws.specs.Floats.{◌-f◌, ◌*f◌, ◌/f◌, +0, at, abs_of, finite, positive}
use Rattle.laws.proofs.Choices.{false_true, if_true, if_false, cond_ind, cond_test}
use Rattle.laws.proofs.Floats.{is_nan_lem}
use Rattle.laws.proofs.Loops.{for_ind, for_keeps, none_yet, one_more}
use Rattle.laws.proofs.Sums.{for_adds}
use Rattle.solver.specs.declared.Solved.{Solved}
use Rattle.solver.specs.Solve.{
  System,
  standing,
  entry,
  refused,
  ranked,
  pivot_row_of,
  pivot_of,
  exchange,
  swap_rows,
  swapped,
  factor_of,
  row_done,
  below_of,
  pivoted,
  column_of,
  after_columns,
  eliminated_of,
  right_sum,
  with_value,
  back_row_of,
  back_of,
  back_if,
  under_of,
  solved_at_scale,
  scale_of,
  solve_of,
}
use Rattle.solver.proofs.Segments.{by_eq, loop_keeps}
use Rattle.solver.proofs.NoCopy.{row_stays, below_stays}
use Rattle.solver.proofs.Solutions.{eliminated_sound}
use Rattle.solver.proofs.Placed.{none_found}
use Rattle.solver.proofs.Whole.{sized}

-- ---- the test

-- a NaN is not at most any limit
not_at_most : (x limit : Float) → is_nan x ≡ true → le (abs_of x) limit ≡ false
unfolding le lt eq abs_of is_nan
not_at_most nan limit h = refl
not_at_most (inf s) limit h = false_true h
not_at_most (fin s m e) limit h = false_true h

-- clearing the rows below a column refuses nothing
below_ok : (n col : ℕ) (s : System) → (below_of n col s).ok ≡ s.ok
unfolding below_of row_done
below_ok n col s =
    loop_keeps (λ (t : System). t.ok ≡ s.ok) (λ row t. row_done n col row (factor_of col row t.m) t) (col + 1) n
    (λ row c d t h. cond_ind (λ (t : System). t.ok ≡ s.ok) (eq (factor_of col row t.m) +0) h h) s refl

-- a system that stands, whose pivot in a column is a NaN, is not refused there: the pivot's row comes up, and the rows below are cleared
pub nan_pivot_goes_on : (n : ℕ) (limit : Float) (col : ℕ) (s : System) → s.ok ≡ true → is_nan (pivot_of n s.m col) ≡ true
    → column_of n limit col s ≡ below_of n col (swapped s col (pivot_row_of n s.m col))
unfolding column_of pivoted
nan_pivot_goes_on n limit col s stands h = sym (if_true s stands (if_false _ (not_at_most (pivot_of n s.m col) limit h) refl))

-- so it stands after that column too
pub nan_pivot_passes : (n : ℕ) (limit : Float) (col : ℕ) (s : System) → s.ok ≡ true → is_nan (pivot_of n s.m col) ≡ true → (column_of n limit col s).ok ≡ true
nan_pivot_passes n limit col s stands h = ap (λ (t : System). t.ok) (nan_pivot_goes_on n limit col s stands h) ∙ below_ok n col _ ∙ stands

-- ---- the NaN comes to the diagonal, and stays there

-- place k of a list holds a NaN, or lies beyond its end
abbrev NanAt : ℕ → List Float → Type 0
NanAt k l = is_nan (at l k) ≡ true

set_keeps : (k i : ℕ) (v : Float) (l : List Float) → (k ≡ i → ⊥) → NanAt k l → NanAt k (set l i v)
set_keeps k i v l ne h = ap is_nan (get_or-set_other l i k v nan ne) ∙ h

set_brings : (k : ℕ) (v : Float) (l : List Float) → is_nan v ≡ true → NanAt k (set l k v)
unfolding is_nan
set_brings k v l h = go (ltb k (length l)) refl
  where
    go : (b : Bool) → ltb k (length l) ≡ b → NanAt k (set l k v)
    go true e = ap is_nan (get_or-set_same l k v nan (ltb-true k (length l) e)) ∙ h
    go false e = ap is_nan (get_or-eq_default (set l k v) nan (omega (arith, ltb-false k (length l) e, length-set l k v)))

exchange_keeps : (k a b : ℕ) (l : List Float) → (k ≡ a → ⊥) → (k ≡ b → ⊥) → NanAt k l → NanAt k (exchange l a b)
exchange_keeps k a b l ne nf h = set_keeps k b (at l a) (set l a (at l b)) nf (set_keeps k a (at l b) l ne h)

exchange_brings : (a b : ℕ) (l : List Float) → NanAt b l → NanAt a (exchange l a b)
exchange_brings a b l h =
    by_eq a b (λ e. subst (λ (k : ℕ). NanAt k (exchange l a b)) (sym e) (set_brings b (at l a) (set l a (at l b)) (ap (λ (k : ℕ). is_nan (at l k)) e ∙ h)))
    (λ ne. set_keeps a b (at l a) (set l a (at l b)) ne (set_brings a (at l b) l h))

-- two rows change places: the NaN of the row that comes up stands on the diagonal
swap_brings : (col p : ℕ) (m : List Float) → col < 6 → col ≤ p → NanAt (p * 6 + col) m → NanAt (col * 6 + col) (swap_rows m col p)
unfolding swap_rows
swap_brings col p m c l h =
    (for_ind (λ j m. exchange m (col * 6 + j) (p * 6 + j)) (λ (j : ℕ) (m : List Float). (j ≤ col → NanAt (p * 6 + col) m) × (col < j → NanAt (col * 6 + col) m)) 6 step m
    (λ q. h, λ q. absurd (omega arith))
    ).1 c
  where
    step : (j : ℕ) (m : List Float) → j < 6 → (j ≤ col → NanAt (p * 6 + col) m) × (col < j → NanAt (col * 6 + col) m)
        → (j + 1 ≤ col → NanAt (p * 6 + col) (exchange m (col * 6 + j) (p * 6 + j))) × (col < j + 1 → NanAt (col * 6 + col) (exchange m (col * 6 + j) (p * 6 + j)))
    step j m d w = (
      λ q. exchange_keeps (p * 6 + col) (col * 6 + j) (p * 6 + j) m (λ e. omega arith) (λ e. omega arith) (w.0 (omega arith)),
      λ q. by_eq j col
          (λ e. rw e (exchange_brings (col * 6 + col) (p * 6 + col) m (w.0 (omega arith))))
          (λ ne. exchange_keeps (col * 6 + col) (col * 6 + j) (p * 6 + j) m (λ e. ne (omega arith)) (λ e. ne (omega arith)) (w.1 (omega arith))),
    )

-- two rows below change places
swap_keeps : (k a b : ℕ) (m : List Float) → k < a * 6 → k < b * 6 → NanAt k m → NanAt k (swap_rows m a b)
unfolding swap_rows
swap_keeps k a b m p q h = for_keeps (NanAt k) (λ j m. exchange m (a * 6 + j) (b * 6 + j)) 6 (λ j l m w. exchange_keeps k (a * 6 + j) (b * 6 + j) m (λ e. omega arith) (λ e. omega arith) w) m h

-- the rows below are cleared
below_keeps : (k n col : ℕ) (s : System) → k < (col + 1) * 6 → NanAt k s.m → NanAt k (below_of n col s).m
below_keeps k n col s p h = ap is_nan (below_stays k n col s p) ∙ h

-- the pivot's row is none above its column
pivot_from : (n col : ℕ) (m : List Float) → col ≤ pivot_row_of n m col
unfolding pivot_row_of
pivot_from n col m =
    loop_keeps (λ (p : ℕ). col ≤ p) (λ i p. cond (ranked (abs_of (entry m p col)) (abs_of (entry m i col))) i p) (col + 1) n
    (λ i c d p w. cond_ind (λ (p : ℕ). col ≤ p) (ranked (abs_of (entry m p col)) (abs_of (entry m i col))) (omega arith) w) col (omega arith)

-- every row below a NaN pivot has a factor that is a NaN, so that all its entries from the pivot's column on are updated
below_counts : (n col : ℕ) (s : System) → col < 6 → NanAt (col * 6 + col) s.m → (below_of n col s).updates ≡ s.updates + (n - (col + 1)) * (n - col)
unfolding below_of row_done div eq
below_counts n col s c h =
    for_adds (λ (t : System). NanAt (col * 6 + col) t.m) (λ (t : System). t.updates) (λ row t. row_done n col row (factor_of col row t.m) t) (col + 1) n (n - col)
    (λ row a b t w. (ap is_nan (row_stays (col * 6 + col) n col row (factor_of col row t.m) t (omega arith)) ∙ w, sym (ap (λ (u : System). u.updates) (if_false t (no_zero (entry t.m row col) (entry t.m col col) w) refl)))) s h
  where
    no_zero : (x y : Float) → is_nan y ≡ true → eq (x /f y) +0 ≡ false
    no_zero x y w = ap (λ (y : Float). eq (x /f y) +0) (is_nan_lem y w) ∙ go x
      where
        go : (x : Float) → eq (x /f nan) +0 ≡ false
        go nan = refl
        go (inf s) = refl
        go (fin s m e) = refl

-- a NaN pivot counts: n - col entries in each row below it
pub nan_pivot_counts : (n : ℕ) (limit : Float) (col : ℕ) (s : System) → col < 6 → s.ok ≡ true → is_nan (pivot_of n s.m col) ≡ true
    → (column_of n limit col s).updates ≡ s.updates + (n - (col + 1)) * (n - col)
nan_pivot_counts n limit col s c stands h =
    let p = pivot_row_of n s.m col in
    ap (λ (t : System). t.updates) (nan_pivot_goes_on n limit col s stands h) ∙ below_counts n col (swapped s col p) c (swap_brings col p s.m c (pivot_from n col s.m) h)

-- where the system stands, place k holds a NaN
abbrev Marred : ℕ → System → Type 0
Marred k s = s.ok ≡ true → NanAt k s.m

-- the column of the NaN pivot
column_brings : (n : ℕ) (limit : Float) (col : ℕ) (s : System) → col < 6 → is_nan (pivot_of n s.m col) ≡ true → Marred (col * 6 + col) (column_of n limit col s)
unfolding column_of
column_brings n limit col s c h = by s.ok refl
  where
    by : (b : Bool) → s.ok ≡ b → Marred (col * 6 + col) (column_of n limit col s)
    by true stands w =
        subst (λ (t : System). NanAt (col * 6 + col) t.m) (sym (nan_pivot_goes_on n limit col s stands h))
        (below_keeps (col * 6 + col) n col (swapped s col (pivot_row_of n s.m col)) (omega arith)
        (swap_brings col (pivot_row_of n s.m col) s.m c (pivot_from n col s.m) h))
    by false fallen w = subst (Marred (col * 6 + col)) (if_false (pivoted n limit col (pivot_row_of n s.m col) s) fallen refl) (λ w. false_true (sym fallen ∙ w)) w

-- a later column
column_keeps : (k n : ℕ) (limit : Float) (col : ℕ) (s : System) → k < col * 6 → Marred k s → Marred k (column_of n limit col s)
unfolding column_of pivoted
column_keeps k n limit col s p h =
    cond_test (Marred k) s.ok
    (λ stands. cond_ind (Marred k) (le (abs_of (pivot_of n s.m col)) limit) (λ w. false_true w)
    (λ w. below_keeps k n col (swapped s col (pivot_row_of n s.m col)) (omega arith)
    (swap_keeps k col (pivot_row_of n s.m col) s.m p (omega (arith, pivot_from n col s.m)) (h stands))))
    (λ fallen. h)

-- all columns
marred : (n : ℕ) (limit : Float) (col : ℕ) (s : System) → n ≤ 6 → col < n → is_nan (pivot_of n (after_columns n limit col s).m col) ≡ true → Marred (col * 6 + col) (eliminated_of n limit s)
unfolding eliminated_of
marred n limit col s six c h =
    (for_ind (λ j t. column_of n limit j t) (λ (j : ℕ) (t : System). (t ≡ after_columns n limit j s) × (col < j → Marred (col * 6 + col) t)) n step s (none_yet (λ j t. column_of n limit j t) s, λ q. absurd (omega arith))).1 c
  where
    step : (j : ℕ) (t : System) → j < n → (t ≡ after_columns n limit j s) × (col < j → Marred (col * 6 + col) t)
        → (column_of n limit j t ≡ after_columns n limit (j + 1) s) × (col < j + 1 → Marred (col * 6 + col) (column_of n limit j t))
    step j t d w = (
      one_more (λ j t. column_of n limit j t) s j w.0 refl,
      λ q. by_eq j col
          (λ e. subst (λ (j : ℕ). Marred (col * 6 + col) (column_of n limit j t)) (sym e)
          (column_brings n limit col t (omega arith)
          (ap (λ (t : System). is_nan (pivot_of n t.m col)) (w.0 ∙ ap (λ (j : ℕ). after_columns n limit j s) e) ∙ h)))
          (λ ne. column_keeps (col * 6 + col) n limit j t (omega arith) (w.1 (omega arith))),
    )

-- ---- the substitution back

-- what is divided by a NaN is not finite
over_nan : (x y : Float) → is_nan y ≡ true → finite (x /f y) ≡ false
unfolding div finite
over_nan x y h = ap (λ (y : Float). finite (x /f y)) (is_nan_lem y h) ∙ go x
  where
    go : (x : Float) → finite (x /f nan) ≡ false
    go nan = refl
    go (inf s) = refl
    go (fin s m e) = refl

-- the row of the NaN has no value
row_stops : (n : ℕ) (m rhs : List Float) (row : ℕ) (t : Solved) → NanAt (row * 6 + row) m → (back_row_of n m rhs row t).ok ≡ false
unfolding back_row_of with_value
row_stops n m rhs row t h =
    cond_test (λ (t : Solved). t.ok ≡ false) t.ok
    (λ stands. sym (ap (λ (t : Solved). t.ok) (if_false (record { ok = true; x = set t.x row _; updates = t.updates }) (over_nan (at rhs row -f right_sum n m t.x row) (entry m row row) h) refl))) (λ fallen. fallen)

-- and a refusal is passed on
row_fallen : (n : ℕ) (m rhs : List Float) (row : ℕ) (t : Solved) → t.ok ≡ false → (back_row_of n m rhs row t).ok ≡ false
unfolding back_row_of
row_fallen n m rhs row t fallen = sym (ap (λ (t : Solved). t.ok) (if_false _ fallen refl)) ∙ fallen

back_stops : (n : ℕ) (m rhs : List Float) (updates row : ℕ) → row < n → NanAt (row * 6 + row) m → (back_of n m rhs updates).ok ≡ false
unfolding back_of
back_stops n m rhs updates row l h =
    for_ind (λ k t. back_row_of n m rhs (n - 1 - k) t) (λ (k : ℕ) (t : Solved). n - 1 - row < k → t.ok ≡ false) n
    (λ k t d w q. by_eq k (n - 1 - row)
    (λ e. let r : n - 1 - k ≡ row = omega arith in row_stops n m rhs (n - 1 - k) t (rw r h))
    (λ ne. row_fallen n m rhs (n - 1 - k) t (w (omega arith)))) (record { ok = true; x = replicate 6 +0; updates = updates }) (λ q. absurd (omega arith)) (omega arith)

-- ---- the whole

-- a NaN pivot in any of the n columns: no solution
none : (n : ℕ) (limit : Float) (m rhs : List Float) (col : ℕ) → n ≤ 6 → col < n → is_nan (pivot_of n (after_columns n limit col (standing m rhs)).m col) ≡ true
    → back_if n (eliminated_of n limit (standing m rhs)) ≡ refused (back_if n (eliminated_of n limit (standing m rhs))).updates
unfolding back_if
none n limit m rhs col six c h = sym (none_found n (back_if n (eliminated_of n limit (standing m rhs))) (eliminated_sound n (eliminated_of n limit (standing m rhs)) six) (stops (eliminated_of n limit (standing m rhs)) (marred n limit col (standing m rhs) six c h)))
  where
    stops : (s : System) → Marred (col * 6 + col) s → (back_if n s).ok ≡ false
    stops s w = cond_test (λ (t : Solved). t.ok ≡ false) s.ok (λ stands. back_stops n s.m s.rhs s.updates col c (w stands)) (λ fallen. refl)

-- m x = rhs under a limit: where the elimination meets a NaN pivot in one of its n columns, the answer is a refusal
-- (a system that was refused before that column is refused in any case, so nothing asks that it still stands)
pub nan_pivot_refused_under : (n : ℕ) (m rhs : List Float) (limit : Float) (col : ℕ) → col < n → is_nan (pivot_of n (after_columns n limit col (standing m rhs)).m col) ≡ true
    → under_of n m rhs limit ≡ refused (under_of n m rhs limit).updates
unfolding under_of
nan_pivot_refused_under n m rhs limit col c h =
    cond_test (λ (t : Solved). t ≡ refused t.updates) (ltb 0 n && leb n 6) (λ size. none n limit m rhs col (sized n size).1 c h) (λ size. refl)

-- and under the limit of tol times the scale
pub nan_pivot_refused : (n : ℕ) (m rhs : List Float) (tol : Float) (col : ℕ) → col < n → is_nan (pivot_of n (after_columns n (tol *f scale_of n m) col (standing m rhs)).m col) ≡ true
    → solve_of n m rhs tol ≡ refused (solve_of n m rhs tol).updates
unfolding solve_of solved_at_scale
nan_pivot_refused n m rhs tol col c h =
    cond_test (λ (t : Solved). t ≡ refused t.updates) (leb n 6)
    (λ size. cond_ind (λ (t : Solved). t ≡ refused t.updates) (positive (scale_of n m)) (none n (tol *f scale_of n m) m rhs col (leb-true n 6 size) c h) refl) (λ size. refl)
