-- What the code works out once for the systems of all faces of a cell. No reader has to believe this: no public contract cites it, and proofs/Laws and proofs/Scaling show that the answers are those of Cell. Definitions only.
use Rattle.std.specs.Prelude.{◌≡◌, cond, List, [], ◌∷◌, ℕ, ◌+◌, ◌<◌, replicate, Float}
use Rattle.std.specs.Float.Ieee.{lt}
use Rattle.laws.specs.Floats.{◌*f◌, +0, one, two, at, abs_of, max_of}
use Rattle.solver.specs.Solve.{scale_of, under_of}
use Rattle.solver.specs.declared.Solved.{Solved}
use Rattle.faces.specs.declared.Face.{Face}
use Rattle.cell.specs.declared.Line.{Line}
use Rattle.cell.specs.declared.Normal.{Normal}
use Rattle.faces.specs.Faces.{face_at}
use Rattle.polytope.specs.Polytope.{rows_of}
use Rattle.cell.specs.Cell.{Problem, problem, kkt_of, rhs_of}

-- ---- the block of all systems: twice the normal equations, each line with its right side behind

abbrev pub doubled_of : Normal → List Float
doubled_of n =
    two *f n.a.q0 ∷ two *f n.a.q1 ∷ two *f n.a.q2 ∷ two *f n.a.lin
    ∷ two *f n.d.q0 ∷ two *f n.d.q1 ∷ two *f n.d.q2 ∷ two *f n.d.lin
    ∷ two *f n.c.q0 ∷ two *f n.c.q1 ∷ two *f n.c.q2 ∷ two *f n.c.lin ∷ []

-- its line from place o on, and all three
abbrev pub line_at : ℕ → List Float → Line
line_at o b = record { lin = at b (o + 3); q0 = at b o; q1 = at b (o + 1); q2 = at b (o + 2) }

abbrev pub lines_of : List Float → Normal
lines_of b = record { a = line_at 0 b; d = line_at 4 b; c = line_at 8 b }

-- the block as `base_of` and `right_of` have it
abbrev pub block_of : List Float → List Float
block_of b =
    at b 0 ∷ at b 1 ∷ at b 2 ∷ +0 ∷ +0 ∷ +0
    ∷ at b 4 ∷ at b 5 ∷ at b 6 ∷ +0 ∷ +0 ∷ +0
    ∷ at b 8 ∷ at b 9 ∷ at b 10 ∷ +0 ∷ +0 ∷ +0 ∷ replicate 18 +0

abbrev pub side_of : List Float → List Float
side_of b = at b 3 ∷ at b 7 ∷ at b 11 ∷ +0 ∷ +0 ∷ +0 ∷ []

-- the problem of a cell whose block is b
abbrev pub problem_in : List Float → List Float → List Float → Float → Float → Problem
problem_in b g h pivot slack = problem 3 7 (block_of b) (side_of b) g h pivot slack

-- ---- the scales

-- the largest magnitude of three entries, and at least acc
abbrev pub line_scale : Float → Float → Float → Float → Float
line_scale acc x y z = max_of (max_of (max_of acc (abs_of x)) (abs_of y)) (abs_of z)

-- that of the empty face, and that of every other one: a constraint has an entry of magnitude 1, and none of more
abbrev pub empty_scale : List Float → Float
empty_scale b = scale_of 3 (block_of b)

abbrev pub other_scale : List Float → Float
other_scale b = cond (lt (empty_scale b) one) one (empty_scale b)

-- every face but the empty one has this scale
abbrev pub Scaled : List Float → Float → Type 0
Scaled b scale = (t : ℕ) → 0 < t → t < 64 → scale_of (3 + (face_at 3 7 t).size) (kkt_of (block_of b) rows_of 3 (face_at 3 7 t)) ≡ scale

-- ---- the answer of a face's system under a limit of its pivots

abbrev pub system_answer : List Float → List Float → List Float → Float → Face → Solved
system_answer b g h limit f = under_of (3 + f.size) (kkt_of (block_of b) g 3 f) (rhs_of (side_of b) h 3 f) limit
