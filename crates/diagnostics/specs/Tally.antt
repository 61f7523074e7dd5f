-- One check as a running tally (diagnostics.rs: `Check`). Definitions only.
-- docs/METHOD.md, 'Surfaces and diagnostics'.
use Rattle.std.specs.Prelude.{Bool, true, false, cond, ℕ, ◌+◌, eqb, ltb, Float}
use Rattle.std.specs.Float.Ieee.{lt, neg}
use Rattle.laws.specs.Floats.{+0}
use Rattle.diagnostics.specs.declared.tally.DiagnosticPoint.{DiagnosticPoint}
use Rattle.diagnostics.specs.declared.tally.Worst.{Worst}
use Rattle.diagnostics.specs.declared.tally.Check.{Check}

-- one more where asked, up to the greatest usize
unfoldable pub one_more : Bool → ℕ → ℕ
one_more up n = cond up (cond (ltb n 18446744073709551615) (n + 1) n) n

-- a point with its value
abbrev pub point_at : Float → Float → Float → DiagnosticPoint
point_at k tau value = record { k = k; tau = tau; value = value }

abbrev pub found : DiagnosticPoint → Worst
found p = record { found = true; at = p }

-- the first smallest value stays: a later one takes its place where it is less (a NaN is never less, and nothing is less than a NaN)
unfoldable pub worse_of : Worst → DiagnosticPoint → Worst
worse_of w p = cond w.found (cond (lt p.value w.at.value) (found p) w) (found p)

-- `record`: a violation is a value below -tolerance
unfoldable pub recorded_of : Check → DiagnosticPoint → Float → Check
recorded_of c p t = record { points = one_more true c.points; violations = one_more (lt p.value (neg t)) c.violations; worst = worse_of c.worst p }

-- a check that has seen nothing
abbrev pub no_check : Check
no_check = record { points = 0; violations = 0; worst = record { found = false; at = point_at +0 +0 +0 } }

-- `is_clean`: no violation
abbrev pub is_clean : Check → Bool
is_clean c = eqb c.violations 0
