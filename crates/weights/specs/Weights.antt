-- Step 3 of the fit: the median weight, the cap, and the weights capped and scaled so that the largest is 1. Definitions only.
-- docs/METHOD.md, 'Weights'.
use Rattle.std.specs.Prelude.{Bool, true, false, ◌&&◌, cond, List, [], ◌∷◌, ◌++◌, map, ℕ, ◌-◌, ◌/◌, ◌%◌, eqb, leb, length, Float}
use Rattle.std.specs.Float.Ieee.{lt}
use Rattle.laws.specs.Loop.{for}
use Rattle.laws.specs.Choice.{unless}
use Rattle.laws.specs.Floats.{◌+f◌, ◌-f◌, ◌*f◌, ◌/f◌, +0, half, at, positive, min_of, max_of}
use Rattle.laws.specs.Room.{at_front}
use Rattle.weights.specs.declared.Weights.{Weights}

-- ---- the median

abbrev pub lesser : Float → Float → Float
lesser x y = cond (lt x y) x y

abbrev pub greater : Float → Float → Float
greater x y = cond (lt x y) y x

-- x put into a sorted list: at each place the lesser stays, and the greater goes on
unfoldable pub insert_of : Float → List Float → List Float
insert_of x [] = x ∷ []
insert_of x (y ∷ ys) = lesser x y ∷ insert_of (greater x y) ys

unfoldable pub sort_of : List Float → List Float
sort_of [] = []
sort_of (t ∷ weights) = insert_of t (sort_of weights)

-- half way from lo to hi
abbrev pub between : Float → Float → Float
between lo hi = lo +f half *f (hi -f lo)

-- the middle of n sorted numbers: of an even count, half way between the two
unfoldable pub mid_of : ℕ → List Float → Float
mid_of n s = cond (eqb (n % 2) 0) (between (at s (n / 2 - 1)) (at s (n / 2))) (at s (n / 2))

abbrev pub median_of : List Float → Float
median_of weights = mid_of (length weights) (sort_of weights)

-- ---- the cap

abbrev pub cap_of : Float → List Float → Float
cap_of ratio weights = ratio *f median_of weights

-- the positions of the weights above a cap, counted from 0, rising
unfoldable pub capped_at : Float → List Float → List ℕ
capped_at cap weights = for 0 (length weights) (λ i l. cond (lt cap (at weights i)) (l ++ (i ∷ [])) l) []

abbrev pub capped_of : Float → List Float → List ℕ
capped_of ratio weights = capped_at (cap_of ratio weights) weights

-- the largest of the weights, each at most the cap
unfoldable pub top_of : Float → List Float → Float
top_of cap weights = for 0 (length weights) (λ i top. max_of top (min_of (at weights i) cap)) +0

-- ---- the scaled weights

abbrev pub scale_one : Float → Float → Float → Float
scale_one cap top t = min_of t cap /f top

-- each is at most the cap, over the largest such
abbrev pub scaled_of : Float → List Float → List Float
scaled_of ratio weights = map (scale_one (cap_of ratio weights) (top_of (cap_of ratio weights) weights)) weights

-- each of the first n is finite and positive
abbrev pub good_first : ℕ → List Float → Bool
good_first n weights = for 0 n (λ i good. good && positive (at weights i)) true

-- check 5: each is finite and positive
unfoldable pub all_good : List Float → Bool
all_good weights = good_first (length weights) weights

-- ---- what step 3 hands on: of 1 to 256 weights; of any other count nothing is made

abbrev pub weighable : List Float → Bool
weighable weights = leb 1 (length weights) && leb (length weights) 256

-- whether each scaled weight is finite and positive, and the cap
abbrev pub weighed : Float → List Float → Weights
weighed ratio weights = record { ok = all_good (scaled_of ratio weights); cap = cap_of ratio weights }

unfoldable pub weights_of : Float → List Float → Weights
weights_of ratio weights = unless (weighable weights) (record { ok = false; cap = +0 }) (weighed ratio weights)

-- what the lent room holds afterwards: the scaled weights at its front; where nothing is made, it is as it was
unfoldable pub scaled_in : Float → List Float → List Float → List Float
scaled_in ratio weights room = unless (weighable weights) room (at_front (scaled_of ratio weights) room)
