-- Points recorded one after the other, and what is to be said of their tally. Definitions only.
-- docs/METHOD.md, 'Surfaces and diagnostics'.
use Rattle.std.specs.Prelude.{◌≡◌, true, false, cond, List, [], ◌∷◌, ◌⊎◌, ℕ, ◌+◌, ◌<◌, ltb, length, get_or, Float}
use Rattle.std.specs.Float.{nan}
use Rattle.std.specs.Float.Ieee.{lt, neg}
use Rattle.diagnostics.specs.declared.tally.DiagnosticPoint.{DiagnosticPoint}
use Rattle.diagnostics.specs.declared.tally.Worst.{Worst}
use Rattle.diagnostics.specs.declared.tally.Check.{Check}
use Rattle.diagnostics.specs.Tally.{point_at, found, recorded_of, no_check}

-- points recorded one after the other, at a tolerance
unfoldable pub recorded_all : Check → List DiagnosticPoint → Float → Check
recorded_all c [] t = c
recorded_all c (p ∷ ps) t = recorded_all (recorded_of c p t) ps t

-- the tally of these points and of no other
abbrev pub tally_of : List DiagnosticPoint → Float → Check
tally_of ps t = recorded_all no_check ps t

-- a count as a usize holds it: it stops at the top
unfoldable pub up_to : ℕ → ℕ
up_to n = cond (ltb n 18446744073709551615) n 18446744073709551615

-- how many of the points are violations, values below -tolerance
unfoldable pub violations_in : List DiagnosticPoint → Float → ℕ
violations_in [] t = 0
violations_in (p ∷ ps) t = cond (lt p.value (neg t)) 1 0 + violations_in ps t

-- point i, and its value
abbrev pub point_of : List DiagnosticPoint → ℕ → DiagnosticPoint
point_of ps i = get_or ps i (point_at nan nan nan)

abbrev pub value_of : List DiagnosticPoint → ℕ → Float
value_of ps i = (point_of ps i).value

-- w is the point with the first smallest value: no value is less, each before it is greater or a NaN, and a NaN that comes first stays
pub record FirstSmallest (ps : List DiagnosticPoint) (w : Worst) : Type 0 where
  pub place : ℕ
  pub inside : place < length ps
  pub is_it : w ≡ found (point_of ps place)
  pub none_less : (j : ℕ) → j < length ps → lt (value_of ps j) (value_of ps place) ≡ false
  pub earlier : (j : ℕ) → j < place → (lt (value_of ps place) (value_of ps j) ≡ true) ⊎ (value_of ps j ≡ nan)
  pub nan_stays : value_of ps 0 ≡ nan → place ≡ 0

-- what a tally says of its points
pub record Tallies (ps : List DiagnosticPoint) (t : Float) (c : Check) : Type 0 where
  pub points : c.points ≡ up_to (length ps)
  pub violations : c.violations ≡ up_to (violations_in ps t)
  pub none : ps ≡ [] → c.worst.found ≡ false
  pub worst : 0 < length ps → FirstSmallest ps c.worst
