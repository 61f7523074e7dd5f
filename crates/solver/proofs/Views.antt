-- When a system of n unknowns stands in the last n rows and columns of six rows of eight, its right side in column 6; o = 6 - n.
use mathlib.Core.Path.{◌≡◌}
use mathlib.Core.Bool.{true}
use mathlib.Core.List.{List}
use Prim.Native.Nat.{ℕ, ◌+◌, ◌≤◌, ◌<◌}
use lib.Ieee.{Float}
use Rattle.laws.specs.Floats.{at}
use Rattle.solver.specs.declared.Solved.{Solved}
use Rattle.solver.specs.Solve.{entry}
use Rattle.solver.specs.Rows.{Room, spot}

-- before the elimination
pub record Stands (n o : ℕ) (m rhs t : List Float) : Type 0 where
  pub entries : (i j : ℕ) → i < n → j < n → entry m i j ≡ spot t (i + o) (j + o)
  pub rights : (i : ℕ) → i < n → at rhs i ≡ spot t (i + o) 6

-- after it only the diagonal, what is right of it, and the right side count
pub record Stepped (n o : ℕ) (m rhs t : List Float) : Type 0 where
  pub entries : (i j : ℕ) → i ≤ j → j < n → entry m i j ≡ spot t (i + o) (j + o)
  pub rights : (i : ℕ) → i < n → at rhs i ≡ spot t (i + o) 6

-- the unknowns of an answer stand in the last n places of the room of the unknowns
pub record Found (n o : ℕ) (s : Solved) (u : Room) : Type 0 where
  pub same : s.ok ≡ u.ok
  pub values : s.ok ≡ true → (i : ℕ) → i < n → at s.x i ≡ at u.m (i + o)
