-- M10, computed: the first pair of faces is {0,1}, the last {5,6}. Assumes nothing.
use mathlib.Core.Path.{◌≡◌, refl}
use mathlib.Core.List.{[], ◌∷◌}
use lib.ListN.{length, get_or}
use Rattle.faces.specs.Faces.{sets, sets_up_to}

-- the pairs alone, and where they stand in the order of the fit: after the empty face and the seven of one constraint
pub m10 :
    (get_or (sets 2 7 0) 0 [] ≡ 0 ∷ 1 ∷ []) × (get_or (sets 2 7 0) 20 [] ≡ 5 ∷ 6 ∷ []) × (length (sets 2 7 0) ≡ 21)
    × (get_or (sets_up_to 3 7) 8 [] ≡ 0 ∷ 1 ∷ []) × (get_or (sets_up_to 3 7) 28 [] ≡ 5 ∷ 6 ∷ [])
unfolding sets_up_to sets
m10 = (refl, refl, refl, refl, refl)
