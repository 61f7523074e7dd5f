-- `cell::best` meets its contract. The face at hand is the one before face t. Assumes nothing.
use mathlib.Core.Path.{◌≡◌}
use Prim.Native.Nat.{◌+◌, ◌-◌, ◌≤◌}
use Rattle.laws.specs.Loop.{for}
use Rattle.faces.specs.Faces.{face_at}
use Rattle.cell.specs.Cell.{try_of, updates_of, pick_of, best_of}
use Rattle.cell.specs.Inner.{goal_of, problem_with}
use Rattle.cell.proofs.best.Given as goal

abbrev pub invariant-loop-t : goal.invariant-loop-t
invariant-loop-t l = (1 ≤ l.t) × (l.t ≤ 64) × (l.f ≡ face_at 3 7 (l.t - 1))
    × (for l.t 64 (λ t b. pick_of (try_of (goal_of l.d) (problem_with l.c) (face_at 3 7 t)) b) l.best ≡ best_of (goal_of l.d) (problem_with l.c) 64)
    × (l.first + l.updates ≡ updates_of (problem_with l.c) l.t)

abbrev pub decreases-loop-t : goal.decreases-loop-t
decreases-loop-t l = 64 - l.t
