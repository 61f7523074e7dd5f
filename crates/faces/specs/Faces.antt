-- The faces of the polytope in their order, as `combinations` of calibrate.rs gives them: sets of constraints, by size, then in dictionary order. Definitions only.
-- docs/METHOD.md, 'One cell: every face of the polytope'.
use Rattle.std.specs.Prelude.{Bool, true, false, cond, List, [], ◌∷◌, ◌++◌, map, ℕ, zero, suc, eqb, length, get_or, set, replicate}
use Rattle.laws.specs.Loop.{for}
use Rattle.faces.specs.declared.Face.{Face}

-- every set of k of the m numbers from a on, its members rising, in dictionary order: those with a, then those without
unfoldable pub sets : ℕ → ℕ → ℕ → List (List ℕ)
sets zero m a = [] ∷ []
sets (suc k) zero a = []
sets (suc k) (suc m) a = map (λ s. a ∷ s) (sets k m (suc a)) ++ sets (suc k) m (suc a)

-- the sets of up to u of the numbers below n, by size
unfoldable pub sets_up_to : ℕ → ℕ → List (List ℕ)
sets_up_to zero n = sets 0 n 0
sets_up_to (suc u) n = sets_up_to u n ++ sets (suc u) n 0

-- a set as a face: how many constraints it holds, and which; what is not used is 0
abbrev pub face_of : List ℕ → Face
face_of l = record { size = length l; a = get_or l 0 0; b = get_or l 1 0; c = get_or l 2 0 }

-- face t of a model with u unknowns and n constraints
unfoldable pub face_at : ℕ → ℕ → ℕ → Face
unfolding sets_up_to sets
face_at u n t = face_of (get_or (sets_up_to u n) t [])

-- member number s of a face, from 0
abbrev pub member_of : Face → ℕ → ℕ
member_of f s = cond (eqb s 0) f.a (cond (eqb s 1) f.b f.c)

-- the constraints of a face marked among seven
unfoldable pub face_marks : Face → List Bool
face_marks f = for 0 f.size (λ s t. set t (member_of f s) true) (replicate 7 false)
