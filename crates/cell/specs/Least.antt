-- The weighted least squares at (m, sigma): w = a + d y + c h with y = (k - m) / sigma and h = hypot(y, 1). Definitions only.
-- The rows (1, y, h) of the observations are functions of the index; k, w and the weights are lists.
-- docs/METHOD.md, 'Five numbers, three of them linear'.
use Rattle.std.specs.Prelude.{List, [], ◌∷◌, ℕ, length, replicate, Float}
use Rattle.laws.specs.Loop.{for}
use Rattle.laws.specs.Floats.{◌+f◌, ◌-f◌, ◌*f◌, ◌/f◌, +0, one, two, at}
use Rattle.roots.specs.Hypot.{hypot_of}
use Rattle.cell.specs.declared.Line.{Line}
use Rattle.cell.specs.declared.Normal.{Normal}

-- (k - m) / sigma of observation i
unfoldable pub y_of : List Float → Float → Float → ℕ → Float
y_of ks m sigma i = (at ks i -f m) /f sigma

unfoldable pub h_of : Float → Float
h_of y = hypot_of y one

-- ---- the normal equations

-- to one line of them, s = weight x ri: s times w, and s times each rj
unfoldable pub line_of : Line → Float → Float → Float → Float → Line
line_of l s y h w = record { lin = l.lin +f s *f w; q0 = l.q0 +f s *f one; q1 = l.q1 +f s *f y; q2 = l.q2 +f s *f h }

-- an observation of weight t added
unfoldable pub with_observation : Normal → Float → Float → Float → Float → Normal
with_observation n t y h w = record { a = line_of n.a (t *f one) y h w; d = line_of n.d (t *f y) y h w; c = line_of n.c (t *f h) y h w }

abbrev pub no_line : Line
no_line = record { lin = +0; q0 = +0; q1 = +0; q2 = +0 }

-- over the observations in turn
unfoldable pub normal_equations : (ℕ → Float) → (ℕ → Float) → List Float → List Float → Normal
normal_equations y h ws weights = for 0 (length ws) (λ i s. with_observation s (at weights i) (y i) (h i) (at ws i)) (record { a = no_line; d = no_line; c = no_line })

-- twice q in the corner of the 6 by 6 matrix of the empty face
abbrev pub base_of : Normal → List Float
base_of n =
    two *f n.a.q0 ∷ two *f n.a.q1 ∷ two *f n.a.q2 ∷ +0 ∷ +0 ∷ +0
    ∷ two *f n.d.q0 ∷ two *f n.d.q1 ∷ two *f n.d.q2 ∷ +0 ∷ +0 ∷ +0
    ∷ two *f n.c.q0 ∷ two *f n.c.q1 ∷ two *f n.c.q2 ∷ +0 ∷ +0 ∷ +0 ∷ replicate 18 +0

-- twice lin
abbrev pub right_of : Normal → List Float
right_of n = two *f n.a.lin ∷ two *f n.d.lin ∷ two *f n.c.lin ∷ +0 ∷ +0 ∷ +0 ∷ []

-- ---- the objective, summed directly

abbrev pub miss_of : List Float → Float → Float → Float → Float
miss_of x y h w = at x 0 +f at x 1 *f y +f at x 2 *f h -f w

unfoldable pub objective_of : (ℕ → Float) → (ℕ → Float) → List Float → List Float → List Float → Float
objective_of y h ws weights x =
    for 0 (length ws) (λ i acc. acc +f at weights i *f miss_of x (y i) (h i) (at ws i) *f miss_of x (y i) (h i) (at ws i)) +0

-- the same with the rows read from two lists
abbrev pub objective_at : List Float → List Float → List Float → List Float → List Float → Float
objective_at ys hs ws weights = objective_of (at ys) (at hs) ws weights
