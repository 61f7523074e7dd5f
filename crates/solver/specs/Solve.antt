-- `solve_linear` of calibrate.rs: Gaussian elimination with partial pivoting on the first n rows and columns of a 6 by 6 matrix, row by row in one list,
-- the substitution back, and how many entries of the matrix the elimination updates. Every operation is rounded once, in the order written. Definitions only.
-- docs/METHOD.md, 'One cell: every face of the polytope'.
use Rattle.std.specs.Prelude.{Bool, true, false, ◌&&◌, ◌||◌, cond, List, ℕ, ◌+◌, ◌-◌, ◌*◌, leb, ltb, set, replicate, Float}
use Rattle.std.specs.Float.Ieee.{le, eq, is_nan}
use Rattle.laws.specs.Loop.{for}
use Rattle.laws.specs.Choice.{unless}
use Rattle.laws.specs.Floats.{◌+f◌, ◌-f◌, ◌*f◌, ◌/f◌, +0, at, abs_of, finite, positive, max_of}
use Rattle.solver.specs.declared.Solved.{Solved}

-- a system under elimination: whether it still stands, its matrix, its right side, and how many entries of the matrix were updated
pub record System : Type 0 where
  pub ok : Bool
  pub m : List Float
  pub rhs : List Float
  pub updates : ℕ

abbrev pub after : Bool → List Float → List Float → ℕ → System
after ok m rhs updates = record { ok = ok; m = m; rhs = rhs; updates = updates }

-- before the first column
abbrev pub standing : List Float → List Float → System
standing m rhs = after true m rhs 0

-- the entry in row i and column j
abbrev pub entry : List Float → ℕ → ℕ → Float
entry m i j = at m (i * 6 + j)

-- no solution, after so many updates
abbrev pub refused : ℕ → Solved
refused updates = record { ok = false; x = replicate 6 +0; updates = updates }

-- ---- the scale: the largest magnitude of all entries, row by row, +0 to begin with

unfoldable pub row_scale_of : ℕ → List Float → ℕ → Float → Float
row_scale_of n m i acc = for 0 n (λ j acc. max_of acc (abs_of (entry m i j))) acc

unfoldable pub scale_of : ℕ → List Float → Float
scale_of n m = for 0 n (λ i acc. row_scale_of n m i acc) +0

-- ---- the pivot

-- of two magnitudes, a is at most b; a NaN is above all
unfoldable pub ranked : Float → Float → Bool
ranked a b = is_nan b || le a b

-- the row from col on that has the largest magnitude in column col: the LAST of equal ones
unfoldable pub pivot_row_of : ℕ → List Float → ℕ → ℕ
pivot_row_of n m col = for (col + 1) n (λ i p. cond (ranked (abs_of (entry m p col)) (abs_of (entry m i col))) i p) col

-- the pivot: that row's entry in column col
abbrev pub pivot_of : ℕ → List Float → ℕ → Float
pivot_of n m col = entry m (pivot_row_of n m col) col

abbrev pub exchange : List Float → ℕ → ℕ → List Float
exchange l a b = set (set l a (at l b)) b (at l a)

-- rows a and b change places
unfoldable pub swap_rows : List Float → ℕ → ℕ → List Float
swap_rows m a b = for 0 6 (λ j m. exchange m (a * 6 + j) (b * 6 + j)) m

abbrev pub swapped : System → ℕ → ℕ → System
swapped s a b = after s.ok (swap_rows s.m a b) (exchange s.rhs a b) s.updates

-- ---- the elimination

-- from column col on, the row less the factor times the pivot's row, which is read where it stands, in row col
unfoldable pub minus_of : ℕ → ℕ → ℕ → Float → List Float → List Float
minus_of n col row factor m = for col n (λ j m. set m (row * 6 + j) (entry m row j -f factor *f entry m col j)) m

-- the row's entry over the pivot
abbrev pub factor_of : ℕ → ℕ → List Float → Float
factor_of col row m = entry m row col /f entry m col col

-- a row and its right side: the row's entries from column col on are updated. One whose factor is a zero is left as it is
unfoldable pub row_done : ℕ → ℕ → ℕ → Float → System → System
row_done n col row factor s =
    cond (eq factor +0) s
    (after s.ok (minus_of n col row factor s.m) (set s.rhs row (at s.rhs row -f factor *f at s.rhs col)) (s.updates + (n - col)))

-- the rows below col. None of them is row col, so that the Rust's copy of it is not needed: proofs/NoCopy
unfoldable pub below_of : ℕ → ℕ → System → System
below_of n col s = for (col + 1) n (λ row s. row_done n col row (factor_of col row s.m) s) s

-- a pivot, in row p, of at most the limit refuses; a NaN is not at most anything, so it passes
unfoldable pub pivoted : ℕ → Float → ℕ → ℕ → System → System
pivoted n limit col p s =
    cond (le (abs_of (entry s.m p col)) limit) (after false s.m s.rhs s.updates)
    (below_of n col (swapped s col p))

-- one column; a refused system is passed on
unfoldable pub column_of : ℕ → Float → ℕ → System → System
column_of n limit col s = cond s.ok (pivoted n limit col (pivot_row_of n s.m col) s) s

-- the system when its first k columns are done, and when all n are
abbrev pub after_columns : ℕ → Float → ℕ → System → System
after_columns n limit k s = for 0 k (λ col s. column_of n limit col s) s

unfoldable pub eliminated_of : ℕ → Float → System → System
eliminated_of n limit s = after_columns n limit n s

-- ---- the substitution back, from the last row up

-- the sum of the row's products right of the diagonal, from the left, +0 to begin with
unfoldable pub right_sum : ℕ → List Float → List Float → ℕ → Float
right_sum n m x row = for (row + 1) n (λ j tail. tail +f entry m row j *f at x j) +0

-- a value that is not finite refuses
unfoldable pub with_value : ℕ → Float → Solved → Solved
with_value row value t = unless (finite value) (refused t.updates) (record { ok = true; x = set t.x row value; updates = t.updates })

unfoldable pub back_row_of : ℕ → List Float → List Float → ℕ → Solved → Solved
back_row_of n m rhs row t = cond t.ok (with_value row ((at rhs row -f right_sum n m t.x row) /f entry m row row) t) t

-- it updates no entry of the matrix
unfoldable pub back_of : ℕ → List Float → List Float → ℕ → Solved
back_of n m rhs updates = for 0 n (λ k t. back_row_of n m rhs (n - 1 - k) t) (record { ok = true; x = replicate 6 +0; updates = updates })

-- ---- the whole

unfoldable pub back_if : ℕ → System → Solved
back_if n s = unless s.ok (refused s.updates) (back_of n s.m s.rhs s.updates)

-- m x = rhs in n unknowns under a limit of the pivots; no size but 1 to 6 has an answer
unfoldable pub under_of : ℕ → List Float → List Float → Float → Solved
under_of n m rhs limit = unless (ltb 0 n && leb n 6) (refused 0) (back_if n (eliminated_of n limit (standing m rhs)))

unfoldable pub solved_at_scale : ℕ → List Float → List Float → Float → Float → Solved
solved_at_scale n m rhs tol scale = unless (positive scale) (refused 0) (back_if n (eliminated_of n (tol *f scale) (standing m rhs)))

-- m x = rhs in n unknowns; a size above 6 is refused, and so is 0, whose scale is no positive one
unfoldable pub solve_of : ℕ → List Float → List Float → Float → Solved
solve_of n m rhs tol = unless (leb n 6) (refused 0) (solved_at_scale n m rhs tol (scale_of n m))
