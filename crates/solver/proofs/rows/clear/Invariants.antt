-- `solver::rows::clear` meets its contract. Assumes nothing.
use mathlib.Core.Path.{◌≡◌}
use mathlib.Core.Bool.{true}
use Prim.Native.Nat.{ℕ, ◌+◌, ◌-◌, ◌*◌, ◌≤◌}
use Rattle.solver.specs.Rows.{reduced, spot, row_in, clear_in}
use Rattle.laws.specs.Floats.{◌/f◌}
use Rattle.laws.specs.Loop.{for}
use Rattle.solver.proofs.rows.clear.Given as goal

-- what is left: w entries in each row from `row` on, and what the other columns may take
abbrev pub rows_left : ℕ → ℕ → ℕ
rows_left w row = (6 - row) * w

abbrev pub invariant-loop-row : goal.invariant-loop-row
invariant-loop-row l = (l.row ≤ 6) × (rows_left (6 - l.col) l.row ≤ l.now_left)
    × ((u rest : ℕ) → u + (6 - (l.col + 1)) * (6 - l.col) + rest ≡ l.left
    → (for l.row 6 (λ row s. row_in l.col row (spot s.m row l.col /f spot s.m l.col l.col) s) (reduced true l.m (l.now_left - (rows_left (6 - l.col) l.row + rest))) ≡ clear_in l.col (reduced true l.initial.m u)) × (rows_left (6 - l.col) l.row + rest ≤ l.now_left))

abbrev pub decreases-loop-row : goal.decreases-loop-row
decreases-loop-row l = 6 - l.row
