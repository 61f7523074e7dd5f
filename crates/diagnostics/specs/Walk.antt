-- The walk over a grid (diagnostics.rs: `butterfly_g`, the loops of `diagnose`). Every operation is rounded once, in the order written. Definitions only.
-- docs/METHOD.md, 'Surfaces and diagnostics'.
use Rattle.std.specs.Prelude.{List, ℕ, ◌+◌, ◌*◌, set, length, Float, Option, Some, None, Result, Ok, Err}
use Rattle.laws.specs.Choice.{unless}
use Rattle.laws.specs.Floats.{◌+f◌, ◌-f◌, ◌*f◌, ◌/f◌, num, quarter, one, two, four, at, finite}
use Rattle.laws.specs.Loop.{for}
use Rattle.point.specs.declared.TotalVariance.{TotalVariance}
use Rattle.slice.specs.declared.SviSlice.{SviSlice}
use Rattle.surface.specs.declared.types.ShortExpiryPolicy.{ShortExpiryPolicy}
use Rattle.surface.specs.Surface.{variance_at}
use Rattle.diagnostics.specs.declared.tally.Check.{Check}
use Rattle.diagnostics.specs.declared.points.Reading.{Reading}
use Rattle.diagnostics.specs.declared.grid.Previous.{Previous}
use Rattle.diagnostics.specs.declared.grid.Walk.{Walk}
use Rattle.diagnostics.specs.declared.report.DiagnosticsConfig.{DiagnosticsConfig}
use Rattle.diagnostics.specs.Tally.{point_at, recorded_of, no_check}

-- ---- one point

-- `butterfly_g`: (1 - k w_k / (2 w))^2 - (w_k^2 / 4) (1 / w + 1 / 4) + w_kk / 2
unfoldable pub butterfly_of : Float → Float → Float → Float → Float
butterfly_of k w wk wkk =
    let first = one -f k *f wk /f (two *f w) in
    first *f first -f wk *f wk /f four *f (one /f w +f quarter) +f wkk /f two

-- what a point yields: a refusal's number, or 30 where the butterfly value is not finite
abbrev pub seen_of : Result TotalVariance ℕ → Float → Result Reading ℕ
seen_of (Err n) k = Err n
seen_of (Ok v) k =
    unless (finite (butterfly_of k v.w v.w_k v.w_kk)) (Err 30)
    (Ok (record { g = butterfly_of k v.w v.w_k v.w_kk; w = v.w; w_tau = v.w_tau }))

-- no point before: at the start of each k, and after a failure
abbrev pub no_previous : Option Previous
no_previous = None

-- a gap is recorded at the earlier tau, where the point before did not fail
abbrev pub gap_of : Check → Option Previous → Float → Float → Float → Check
gap_of gap None k w t = gap
gap_of gap (Some p) k w t = recorded_of gap (point_at k p.tau (w -f p.w)) t

-- a good point is recorded in the tallies
unfoldable pub good_of : Walk → Float → Float → Reading → DiagnosticsConfig → Walk
good_of s k tau r tol =
    record {
      butterfly = recorded_of s.butterfly (point_at k tau r.g) tol.butterfly_tolerance;
      slope = recorded_of s.slope (point_at k tau r.w_tau) tol.calendar_tolerance;
      gap = gap_of s.gap s.previous k r.w tol.calendar_tolerance;
      failed = s.failed;
      previous = Some (record { tau = tau; w = r.w });
    }

-- a failure is counted, and is in no tally
unfoldable pub failed_of : Walk → Walk
failed_of s = record { butterfly = s.butterfly; slope = s.slope; gap = s.gap; failed = s.failed + 1; previous = no_previous }

-- the walk so far, and the lent room for failures
pub record State : Type 0 where
  pub walk : Walk
  pub room : List Float

abbrev pub walk_in : Walk → List Float → State
walk_in w room = record { walk = w; room = room }

-- failure i of the room: k, tau and the number
unfoldable pub failure_at : List Float → ℕ → Float → Float → ℕ → List Float
failure_at room i k tau n = set (set (set room (3 * i) k) (3 * i + 1) tau) (3 * i + 2) (num n)

-- a point is recorded, or its failure is written
unfoldable pub visit_of : State → Result Reading ℕ → Float → Float → DiagnosticsConfig → State
visit_of st (Ok r) k tau tol = walk_in (good_of st.walk k tau r tol) st.room
visit_of st (Err n) k tau tol = walk_in (failed_of st.walk) (failure_at st.room st.walk.failed k tau n)

-- ---- the walk, over any function from k and tau to what is seen there

abbrev pub PointFn : Type 0
PointFn = Float → Float → Result Reading ℕ

-- a new k has no point before
unfoldable pub fresh_of : Walk → Walk
fresh_of s = record { butterfly = s.butterfly; slope = s.slope; gap = s.gap; failed = s.failed; previous = no_previous }

abbrev pub row_turn : PointFn → DiagnosticsConfig → List Float → Float → ℕ → State → State
row_turn f tol taus k j st = visit_of st (f k (at taus j)) k (at taus j) tol

-- one k, over the tau axis
unfoldable pub taus_at : PointFn → DiagnosticsConfig → List Float → Float → State → State
taus_at f tol taus k st = for 0 (length taus) (row_turn f tol taus k) (walk_in (fresh_of st.walk) st.room)

unfoldable pub walk_start : Walk
walk_start = record { butterfly = no_check; slope = no_check; gap = no_check; failed = 0; previous = no_previous }

abbrev pub walk_turn : PointFn → DiagnosticsConfig → List Float → List Float → ℕ → State → State
walk_turn f tol ks taus i st = taus_at f tol taus (at ks i) st

-- every k, one after the other
unfoldable pub walk_of : PointFn → DiagnosticsConfig → List Float → List Float → List Float → State
walk_of f tol ks taus room = for 0 (length ks) (walk_turn f tol ks taus) (walk_in walk_start room)

-- what is seen at a point of tested slices
unfoldable pub seen_on : List SviSlice → List Float → List Float → ℕ → ShortExpiryPolicy → PointFn
seen_on recs taus tols n policy k tau = seen_of (variance_at recs taus tols n policy k tau) k
