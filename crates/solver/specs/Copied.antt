-- The elimination as the Rust writes it, with a copy of the pivot's row for each column (`pivot_values`). No contract cites it: proofs/NoCopy shows that its answers are those of Solve, which has no copy. Definitions only.
use Rattle.std.specs.Prelude.{false, ◌&&◌, cond, List, ℕ, ◌+◌, ◌-◌, ◌*◌, ltb, leb, set, replicate, Float}
use Rattle.std.specs.Float.Ieee.{le, eq}
use Rattle.laws.specs.Loop.{for}
use Rattle.laws.specs.Choice.{unless}
use Rattle.laws.specs.Floats.{◌-f◌, ◌*f◌, ◌/f◌, +0, at, abs_of, positive}
use Rattle.solver.specs.declared.Solved.{Solved}
use Rattle.solver.specs.Solve.{System, after, standing, entry, refused, scale_of, pivot_row_of, swapped, back_if}

-- a copy of row i
abbrev pub matrix_row : List Float → ℕ → List Float
matrix_row m i = for 0 6 (λ j p. set p j (entry m i j)) (replicate 6 +0)

-- from column col on, the row less the factor times the values of the copy
abbrev pub minus_copied : ℕ → ℕ → List Float → ℕ → Float → List Float → List Float
minus_copied n col values row factor m = for col n (λ j m. set m (row * 6 + j) (entry m row j -f factor *f at values j)) m

-- a row and its right side
abbrev pub row_copied : ℕ → ℕ → List Float → ℕ → Float → System → System
row_copied n col values row factor s =
    cond (eq factor +0) s
    (after s.ok (minus_copied n col values row factor s.m) (set s.rhs row (at s.rhs row -f factor *f at s.rhs col)) (s.updates + (n - col)))

-- the rows below col
abbrev pub below_copied : ℕ → ℕ → List Float → System → System
below_copied n col values s = for (col + 1) n (λ row s. row_copied n col values row (entry s.m row col /f at values col) s) s

-- the copy is made when the pivot's row has come up
abbrev pub pivoted_copied : ℕ → Float → ℕ → ℕ → System → System
pivoted_copied n limit col p s =
    cond (le (abs_of (entry s.m p col)) limit) (after false s.m s.rhs s.updates)
    (below_copied n col (matrix_row (swapped s col p).m col) (swapped s col p))

-- one column, and all n
abbrev pub column_copied : ℕ → Float → ℕ → System → System
column_copied n limit col s = cond s.ok (pivoted_copied n limit col (pivot_row_of n s.m col) s) s

abbrev pub eliminated_copied : ℕ → Float → System → System
eliminated_copied n limit s = for 0 n (λ col s. column_copied n limit col s) s

-- the whole, as `solve_of` and as `under_of`
abbrev pub solve_copied : ℕ → List Float → List Float → Float → Solved
solve_copied n m rhs tol =
    unless (leb n 6) (refused 0) (unless (positive (scale_of n m)) (refused 0) (back_if n (eliminated_copied n (tol *f scale_of n m) (standing m rhs))))

abbrev pub under_copied : ℕ → List Float → List Float → Float → Solved
under_copied n m rhs limit = unless (ltb 0 n && leb n 6) (refused 0) (back_if n (eliminated_copied n limit (standing m rhs)))
