-- The records as floats, and check 10 over them. Definitions only.
-- docs/METHOD.md, 'Before the search'.
use Rattle.std.specs.Prelude.{Bool, true, ◌&&◌, List, [], ◌∷◌, Float}
use Rattle.laws.specs.Floats.{f64}
use Rattle.records.specs.Observation.{passes}
use Rattle.house.specs.declared.Quote.{Quote}

-- the bits of a record as floats
abbrev pub k_of : Quote → Float
k_of q = f64 q.k

abbrev pub w_of : Quote → Float
w_of q = f64 q.w

abbrev pub weight_of : Quote → Float
weight_of q = f64 q.weight

-- the fit's own test of an observation
unfoldable pub quote_passes : Quote → Bool
quote_passes q = passes (k_of q) (w_of q) (weight_of q)

-- check 10 over some records
unfoldable pub all_pass : List Quote → Bool
all_pass [] = true
all_pass (q ∷ qs) = quote_passes q && all_pass qs
