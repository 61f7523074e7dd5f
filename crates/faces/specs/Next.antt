-- The face after a face, worked out from it: the contract of the public `next` cites this, so who calls it has to believe it; proofs/Orders shows that it walks the order of Faces.
-- What the code needs of an order of faces. Definitions only.
use Rattle.std.specs.Prelude.{◌≡◌, cond, [], ℕ, ◌+◌, ◌≤◌, ◌<◌, eqb, ltb}
use Rattle.faces.specs.declared.Face.{Face}
use Rattle.faces.specs.Faces.{face_of, face_at}

-- after a face of one constraint, of n
unfoldable pub after_one : ℕ → Face → Face
after_one n f = cond (ltb (f.a + 1) n) (record { size = 1; a = f.a + 1; b = 0; c = 0 }) (record { size = 2; a = 0; b = 1; c = 0 })

unfoldable pub after_two : ℕ → Face → Face
after_two n f =
    cond (ltb (f.b + 1) n) (record { size = 2; a = f.a; b = f.b + 1; c = 0 })
    (cond (ltb (f.a + 2) n) (record { size = 2; a = f.a + 1; b = f.a + 2; c = 0 }) (record { size = 3; a = 0; b = 1; c = 2 }))

-- the last one stays
unfoldable pub after_three : ℕ → Face → Face
after_three n f =
    cond (ltb (f.c + 1) n) (record { size = 3; a = f.a; b = f.b; c = f.c + 1 })
    (cond (ltb (f.b + 2) n) (record { size = 3; a = f.a; b = f.b + 1; c = f.b + 2 })
    (cond (ltb (f.a + 3) n) (record { size = 3; a = f.a + 1; b = f.a + 2; c = f.a + 3 }) (record { size = 3; a = f.a; b = f.b; c = f.c })))

unfoldable pub next_of : ℕ → Face → Face
next_of n f =
    cond (eqb f.size 0) (record { size = 1; a = 0; b = 0; c = 0 })
    (cond (eqb f.size 1) (after_one n f) (cond (eqb f.size 2) (after_two n f) (after_three n f)))

-- a face of a model with u unknowns and n constraints
pub record Good (u n : ℕ) (f : Face) : Type 0 where
  pub size : f.size ≤ u
  pub a : f.a < n
  pub b : f.b < n
  pub c : f.c < n

-- an order of `count` faces: each is a good one, and `next_of` leads from each to the next
pub record Ordered (u n count : ℕ) : Type 0 where
  pub unknowns : u ≤ 3
  pub rows : n ≤ 7
  pub many : 0 < count
  pub few : count ≤ 64
  pub first : face_at u n 0 ≡ face_of []
  pub good : (t : ℕ) → t < count → Good u n (face_at u n t)
  pub step : (t : ℕ) → t + 1 < count → next_of n (face_at u n t) ≡ face_at u n (t + 1)
