-- The elimination as the code does it. No reader has to believe this: no public contract cites it, and proofs/Same and proofs/Whole show that its answers are those of Solve. Definitions only.
-- Six rows of eight numbers, in which a system of n unknowns stands in the last n rows and columns, with its right side in column 6 of each row; column 7 is not used.
use Rattle.std.specs.Prelude.{◌≡◌, Bool, true, false, cond, List, ℕ, ◌+◌, ◌-◌, ◌*◌, ◌/◌, min, leb, set, replicate, Float, Result, Ok, Err}
use Rattle.std.specs.Float.Ieee.{lt, le, eq, is_nan}
use Rattle.laws.specs.Loop.{for}
use Rattle.laws.specs.Choice.{unless}
use Rattle.laws.specs.Floats.{◌+f◌, ◌-f◌, ◌*f◌, ◌/f◌, +0, at, abs_of, finite}
use Rattle.solver.specs.declared.Solved.{Solved}
use Rattle.solver.specs.Solve.{ranked, exchange, refused}

-- a number that is not below zero: what a scale is, from its first step on
pub record NotBelowZero (a : Float) : Type 0 where
  pub number : is_nan a ≡ false
  pub above : lt a +0 ≡ false

-- a list of numbers, and whether it still stands
pub record Room : Type 0 where
  pub ok : Bool
  pub m : List Float

abbrev pub room : Bool → List Float → Room
room ok m = record { ok = ok; m = m }

-- rows under elimination: whether they still stand, and how many entries of the matrix the plain elimination has updated by then. It updates a row in its pivot's column too, where these rows are left
pub record Reduced : Type 0 where
  pub ok : Bool
  pub m : List Float
  pub updates : ℕ

abbrev pub reduced : Bool → List Float → ℕ → Reduced
reduced ok m updates = record { ok = ok; m = m; updates = updates }

-- the number in row i and column j
abbrev pub spot : List Float → ℕ → ℕ → Float
spot m i j = at m (i * 8 + j)

-- ---- one column

-- the row from col on that has the largest magnitude in column col, as `pivot_row_of`
unfoldable pub pivot_in : ℕ → List Float → ℕ
pivot_in col m = for (col + 1) 6 (λ i p. cond (ranked (abs_of (spot m p col)) (abs_of (spot m i col))) i p) col

-- rows a and b change places from column a on
unfoldable pub swap_in : ℕ → ℕ → List Float → List Float
swap_in a b m = for a 7 (λ j m. exchange m (a * 8 + j) (b * 8 + j)) m

-- right of column col, the row less the factor times row col
unfoldable pub less_in : ℕ → ℕ → Float → List Float → List Float
less_in col row factor m = for (col + 1) 7 (λ j m. set m (row * 8 + j) (spot m row j -f factor *f spot m col j)) m

-- a row whose factor is a zero is left as it is
unfoldable pub row_in : ℕ → ℕ → Float → Reduced → Reduced
row_in col row factor s = cond (eq factor +0) s (reduced s.ok (less_in col row factor s.m) (s.updates + (6 - col)))

-- the rows below col
unfoldable pub clear_in : ℕ → Reduced → Reduced
clear_in col s = for (col + 1) 6 (λ row s. row_in col row (spot s.m row col /f spot s.m col col) s) s

-- the pivot, in row p, is brought up; one of at most the limit refuses
unfoldable pub raised_in : Float → ℕ → ℕ → List Float → Room
raised_in limit col p m = cond (le (abs_of (spot m p col)) limit) (room false m) (room true (swap_in col p m))

-- the rows below it are cleared where it was brought up
unfoldable pub cleared_in : ℕ → Room → ℕ → Reduced
cleared_in col t updates = cond t.ok (clear_in col (reduced true t.m updates)) (reduced false t.m updates)

-- one column; what is refused is passed on
unfoldable pub column_in : Float → ℕ → Reduced → Reduced
column_in limit col s = cond s.ok (cleared_in col (raised_in limit col (pivot_in col s.m) s.m) s.updates) s

-- ---- the elimination of n unknowns: the last n of the six columns, from column k on

unfoldable pub from_in : ℕ → ℕ → Float → Reduced → Reduced
from_in k n limit s = for k 6 (λ col s. cond (leb 6 (n + col)) (column_in limit col s) s) s

-- as many updates as a system of n unknowns has where no factor is a zero: d - 1 rows of d entries for d = n, n - 1, .., 1
abbrev pub most_of : ℕ → ℕ
most_of n = n * (n * n - 1) / 3

-- and in its columns from column k on
abbrev pub most_from : ℕ → ℕ → ℕ
most_from k n = most_of (min n (6 - k))

-- rows m, where what the code hands on is a count with all that the columns from k on may still take, and what it refuses with is the count itself
abbrev pub counted : ℕ → ℕ → Result ℕ ℕ → List Float → Reduced
counted k n (Ok left) m = reduced true m (left - most_from k n)
counted k n (Err updates) m = reduced false m updates

-- rows m with the count of the whole elimination, or up to its refusal
abbrev pub eliminated : Result ℕ ℕ → List Float → Reduced
eliminated (Ok updates) m = reduced true m updates
eliminated (Err updates) m = reduced false m updates

-- ---- the unknowns, from the last row up, each in its row's place of x

unfoldable pub tail_in : List Float → List Float → ℕ → Float
tail_in m x row = for (row + 1) 6 (λ j tail. tail +f spot m row j *f at x j) +0

abbrev pub value_in : List Float → List Float → ℕ → Float
value_in m x row = (spot m row 6 -f tail_in m x row) /f spot m row row

-- a value that is not finite refuses
unfoldable pub back_row_in : List Float → ℕ → Room → Room
back_row_in m row s = cond s.ok (room (finite (value_in m s.m row)) (set s.m row (value_in m s.m row))) s

unfoldable pub back_in : ℕ → List Float → List Float → Room
back_in n m x = for 0 n (λ k s. back_row_in m (5 - k) s) (room true x)

-- what is left of it where k unknowns are known
abbrev pub back_from : ℕ → ℕ → List Float → Room → Room
back_from k n m s = for k n (λ k s. back_row_in m (5 - k) s) s

-- ---- the whole: what is left in the room of the unknowns, and the updates

abbrev pub back_if_in : ℕ → List Float → Reduced → Room
back_if_in n x s = unless s.ok (room false x) (back_in n s.m x)

unfoldable pub solved_in : ℕ → Float → List Float → List Float → Room
solved_in n limit m x = back_if_in n x (from_in 0 n limit (reduced true m 0))

abbrev pub updates_in : ℕ → Float → List Float → ℕ
updates_in n limit m = (from_in 0 n limit (reduced true m 0)).updates

-- ---- a system of the 6 by 6 form put into the rows, and its unknowns taken out

unfoldable pub placed_row : ℕ → List Float → ℕ → List Float → List Float
placed_row n m i t = for 0 n (λ j t. set t ((6 - n + i) * 8 + (6 - n + j)) (at m (i * 6 + j))) t

unfoldable pub placed_of : ℕ → List Float → List Float → List Float
placed_of n m rhs = for 0 n (λ i t. set (placed_row n m i t) ((6 - n + i) * 8 + 6) (at rhs i)) (replicate 48 +0)

unfoldable pub front_of : ℕ → List Float → List Float
front_of n x = for 0 n (λ i r. set r i (at x (6 - n + i))) (replicate 6 +0)

-- ---- the answer of a system in its rows

unfoldable pub answer_of : ℕ → Float → List Float → Solved
answer_of n limit m =
    let s = solved_in n limit m (replicate 6 +0) in
    unless s.ok (refused (updates_in n limit m)) (record { ok = true; x = front_of n s.m; updates = updates_in n limit m })
