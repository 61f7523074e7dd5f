-- How many entries an elimination updates: at most n(n x n - 1)/3 in n unknowns, and none where the size or the scale refuses. Assumes nothing.
use mathlib.Core.Path.{◌≡◌, refl}
use mathlib.Core.Bool.{◌&&◌}
use mathlib.Core.List.{List}
use Prim.Native.Nat.{ℕ, ◌+◌, ◌-◌, ◌*◌, ◌≤◌, ◌<◌}
use native.Mathlib.Omega.{arith}
use lib.Dec.{ltb, leb}
use lib.Ieee.{Float, le, eq}
use borrow.Author.Tests.{leb-true}
use Rattle.laws.specs.Floats.{+0, ◌*f◌, abs_of, positive}
use Rattle.laws.proofs.Choices.{cond_ind, cond_test}
use Rattle.laws.proofs.Loops.{for_ind}
use Rattle.laws.proofs.Sums.{for_most}
use Rattle.solver.specs.declared.Solved.{Solved}
use Rattle.solver.specs.Solve.{System, standing, entry, swapped, factor_of, row_done, below_of, pivot_row_of, pivoted, column_of, eliminated_of, scale_of, under_of, solved_at_scale, solve_of}
use Rattle.solver.proofs.Solutions.{back_updates}
use Rattle.solver.proofs.Steps.{cubic_more}
use Rattle.solver.proofs.Whole.{sized}

-- three times the bound
abbrev pub cubic : ℕ → ℕ
cubic n = n * (n * n - 1)

-- ---- one column

-- the rows below: n - col entries in each
below_most : (n col : ℕ) (s : System) → (below_of n col s).updates ≤ s.updates + (n - (col + 1)) * (n - col)
unfolding below_of row_done
below_most n col s =
    for_most (λ (t : System). t.updates) (λ row t. row_done n col row (factor_of col row t.m) t) (col + 1) n (n - col)
    (λ row t l. cond_ind (λ (u : System). u.updates ≤ t.updates + (n - col)) (eq (factor_of col row t.m) +0) (omega arith) (omega arith)) s

column_most : (n : ℕ) (limit : Float) (col : ℕ) (s : System) → (column_of n limit col s).updates ≤ s.updates + (n - (col + 1)) * (n - col)
unfolding column_of pivoted
column_most n limit col s =
    cond_ind Few s.ok
    (cond_ind Few (le (abs_of (entry s.m (pivot_row_of n s.m col) col)) limit) (omega arith)
    (below_most n col (swapped s col (pivot_row_of n s.m col))))
    (omega arith)
  where
    Few : System → Type 0
    Few t = t.updates ≤ s.updates + (n - (col + 1)) * (n - col)

-- ---- all columns

eliminated_most : (n : ℕ) (limit : Float) (s : System) → n ≤ 6 → s.updates ≡ 0 → 3 * (eliminated_of n limit s).updates ≤ cubic n
unfolding eliminated_of
eliminated_most n limit s six none =
    let all : 3 * (eliminated_of n limit s).updates + cubic (n - n) ≤ cubic n = for_ind (λ col t. column_of n limit col t) Left n step s (rw whole (omega (arith, none))) in
    omega (arith, all)
  where
    whole : n - 0 ≡ n
    whole = omega arith

    -- what is left of the bound after k columns
    Left : ℕ → System → Type 0
    Left k t = 3 * t.updates + cubic (n - k) ≤ cubic n

    step : (j : ℕ) (t : System) → j < n → Left j t → Left (j + 1) (column_of n limit j t)
    step j t l p =
        let d : ℕ = n - (j + 1) in
        let e : n - j ≡ d + 1 = omega arith in
        let q : (column_of n limit j t).updates ≤ t.updates + d * (d + 1) = rw e at (column_most n limit j t) in
        let r : 3 * t.updates + cubic (d + 1) ≤ cubic n = rw e at p in
        let z = cubic_more d in
        omega (arith, q, r, z)

-- ---- every answer

pub updates_under : (n : ℕ) (m rhs : List Float) (limit : Float) → 3 * (under_of n m rhs limit).updates ≤ n * (n * n - 1)
unfolding under_of
updates_under n m rhs limit =
    cond_test (λ (t : Solved). 3 * t.updates ≤ cubic n) (ltb 0 n && leb n 6)
    (λ h. rw (back_updates n (eliminated_of n limit (standing m rhs))) (eliminated_most n limit (standing m rhs) (sized n h).1 refl)) (λ h. omega arith)

-- of every system whatever, of no unknowns or of more than six too
pub updates_most : (n : ℕ) (m rhs : List Float) (tol : Float) → 3 * (solve_of n m rhs tol).updates ≤ n * (n * n - 1)
unfolding solve_of solved_at_scale
updates_most n m rhs tol =
    cond_test (λ (t : Solved). 3 * t.updates ≤ cubic n) (leb n 6)
    (λ h.
    cond_ind (λ (t : Solved). 3 * t.updates ≤ cubic n) (positive (scale_of n m))
    (rw (back_updates n (eliminated_of n (tol *f scale_of n m) (standing m rhs))) (eliminated_most n (tol *f scale_of n m) (standing m rhs) (leb-true n 6 h) refl)) (omega arith))
    (λ h. omega arith)
