-- The Rust copies the pivot's row before it clears the rows below it (`pivot_values`); the definitions read that row where it stands. The answers are the same, to the count of updates:
-- the rows below are the only ones that change, so that row and copy agree from the first of them to the last. Assumes nothing.
use mathlib.Core.Path.{◌≡◌, refl, sym, ap, ◌∙◌}
use mathlib.Core.Bool.{Bool, true, false, ◌&&◌, cond}
use mathlib.Core.List.{List}
use Prim.Native.Nat.{ℕ, ◌+◌, ◌-◌, ◌*◌, ◌≤◌, ◌<◌}
use native.Mathlib.Omega.{arith}
use lib.Dec.{ltb, leb}
use lib.ListN.{set, replicate, length-replicate}
use lib.Seq.{get_or-set_other}
use lib.Ieee.{Float, nan, le, eq}
use borrow.Author.Tests.{leb-true}
use Rattle.laws.specs.Choice.{unless}
use Rattle.laws.specs.Floats.{◌-f◌, ◌*f◌, ◌/f◌, +0, at, abs_of, positive}
use Rattle.laws.specs.Room.{filled_on}
use Rattle.laws.proofs.Choices.{cond_ind}
use Rattle.laws.proofs.Loops.{for_same}
use Rattle.laws.proofs.Rooms.{filled_at}
use Rattle.solver.specs.Solve.{
  System,
  after,
  standing,
  entry,
  refused,
  scale_of,
  pivot_row_of,
  swapped,
  minus_of,
  factor_of,
  row_done,
  below_of,
  pivoted,
  column_of,
  eliminated_of,
  back_if,
  under_of,
  solved_at_scale,
  solve_of,
}
use Rattle.solver.specs.Copied.{matrix_row, minus_copied, row_copied, below_copied, column_copied, eliminated_copied, solve_copied, under_copied}
use Rattle.solver.proofs.Segments.{loop_keeps, loop_agrees}
use Rattle.solver.proofs.Whole.{sized}

-- ---- clearing the rows below changes no entry above them

pub minus_stays : (k n col row : ℕ) (φ : Float) (m : List Float) → k < row * 6 → at (minus_of n col row φ m) k ≡ at m k
unfolding minus_of
minus_stays k n col row φ m l =
    loop_keeps (λ (t : List Float). at t k ≡ at m k) (λ j t. set t (row * 6 + j) (entry t row j -f φ *f entry t col j)) col n
    (λ j a b t h. get_or-set_other t (row * 6 + j) k (entry t row j -f φ *f entry t col j) nan (λ e. omega arith) ∙ h) m refl

pub row_stays : (k n col row : ℕ) (φ : Float) (s : System) → k < row * 6 → at (row_done n col row φ s).m k ≡ at s.m k
unfolding row_done
row_stays k n col row φ s l = cond_ind (λ (t : System). at t.m k ≡ at s.m k) (eq φ +0) refl (minus_stays k n col row φ s.m l)

pub below_stays : (k n col : ℕ) (s : System) → k < (col + 1) * 6 → at (below_of n col s).m k ≡ at s.m k
unfolding below_of
below_stays k n col s l =
    loop_keeps (λ (t : System). at t.m k ≡ at s.m k) (λ row t. row_done n col row (factor_of col row t.m) t) (col + 1) n
    (λ row a b t h. row_stays k n col row (factor_of col row t.m) t (omega arith) ∙ h) s refl

-- ---- with the copy and without it

module _ (n col : ℕ) (six : n ≤ 6) (values : List Float) where
  -- the copy holds row col
  abbrev Copied : List Float → Type 0
  Copied m = (j : ℕ) → j < 6 → at values j ≡ entry m col j

  minus_same : (row : ℕ) (φ : Float) (m : List Float) → col < row → Copied m → minus_copied n col values row φ m ≡ minus_of n col row φ m
  unfolding minus_of
  minus_same row φ m l h =
      loop_agrees Copied (λ j m. set m (row * 6 + j) (entry m row j -f φ *f at values j)) (λ j m. set m (row * 6 + j) (entry m row j -f φ *f entry m col j)) col n
      (λ j a b m h i d. h i d ∙ sym (get_or-set_other m (row * 6 + j) (col * 6 + i) (entry m row j -f φ *f entry m col j) nan (λ e. omega arith)))
      (λ j a b m h. ap (λ (x : Float). set m (row * 6 + j) (entry m row j -f φ *f x)) (h j (omega arith))) m h

  row_same : (row : ℕ) (φ : Float) (s : System) → col < row → Copied s.m → row_copied n col values row φ s ≡ row_done n col row φ s
  unfolding row_done
  row_same row φ s l h =
      ap (λ (m : List Float). cond (eq φ +0) s (after s.ok m (set s.rhs row (at s.rhs row -f φ *f at s.rhs col)) (s.updates + (n - col)))) (minus_same row φ s.m l h)

  below_same : (s : System) → Copied s.m → below_copied n col values s ≡ below_of n col s
  unfolding below_of
  below_same s h =
      loop_agrees (λ (t : System). Copied t.m) (λ row t. row_copied n col values row (entry t.m row col /f at values col) t) (λ row t. row_done n col row (factor_of col row t.m) t) (col + 1) n
      (λ row a b t h i d. h i d ∙ sym (row_stays (col * 6 + i) n col row (factor_of col row t.m) t (omega arith)))
      (λ row a b t h. ap (λ (x : Float). row_copied n col values row (entry t.m row col /f x) t) (h col (omega arith)) ∙ row_same row (factor_of col row t.m) t (omega arith) h) s h

-- the copy of a row holds its entries
row_at : (m : List Float) (i j : ℕ) → j < 6 → at (matrix_row m i) j ≡ entry m i j
unfolding filled_on
row_at m i j l = filled_at (entry m i) nan 6 j (replicate 6 +0) (omega (arith, length-replicate 6 +0)) l

column_same : (n : ℕ) (limit : Float) (col : ℕ) (s : System) → n ≤ 6 → column_copied n limit col s ≡ column_of n limit col s
unfolding column_of pivoted
column_same n limit col s six =
    let p = pivot_row_of n s.m col in
    let t = swapped s col p in
    ap (λ (u : System). cond s.ok (cond (le (abs_of (entry s.m p col)) limit) (after false s.m s.rhs s.updates) u) s)
    (below_same n col six (matrix_row t.m col) t (row_at t.m col))

eliminated_same : (n : ℕ) (limit : Float) (s : System) → n ≤ 6 → eliminated_copied n limit s ≡ eliminated_of n limit s
unfolding eliminated_of
eliminated_same n limit s six = for_same (λ col s. column_copied n limit col s) (λ col s. column_of n limit col s) n (λ col l s. column_same n limit col s six) s

-- what stands behind a test is asked only where it holds
unless_same : {A : Type 0} (b : Bool) (x : A) {y z : A} → (b ≡ true → y ≡ z) → unless b x y ≡ unless b x z
unless_same true x f = f refl
unless_same false x f = refl

-- every system has the answer that it has with the copy
pub no_copy : (n : ℕ) (m rhs : List Float) (tol : Float) → solve_copied n m rhs tol ≡ solve_of n m rhs tol
unfolding solve_of solved_at_scale
no_copy n m rhs tol =
    unless_same (leb n 6) (refused 0) (λ e. ap (λ (s : System). unless (positive (scale_of n m)) (refused 0) (back_if n s)) (eliminated_same n (tol *f scale_of n m) (standing m rhs) (leb-true n 6 e)))

-- and so it has under a limit of the pivots
pub no_copy_under : (n : ℕ) (m rhs : List Float) (limit : Float) → under_copied n m rhs limit ≡ under_of n m rhs limit
unfolding under_of
no_copy_under n m rhs limit = unless_same (ltb 0 n && leb n 6) (refused 0) (λ e. ap (back_if n) (eliminated_same n limit (standing m rhs) (sized n e).1))
