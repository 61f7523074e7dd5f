-- The diagnostics of a surface (diagnostics.rs: `DiagnosticsConfig`, `SurfaceDiagnostics`, `diagnose`): the tests in order, then the walk. Definitions only.
-- docs/METHOD.md, 'Surfaces and diagnostics'.
use Rattle.std.specs.Prelude.{Bool, ◌&&◌, cond, List, ℕ, ◌*◌, eqb, ltb, length, Float, Result, Ok, Err}
use Rattle.std.specs.Float.Ieee.{le}
use Rattle.laws.specs.Choice.{unless, refusing}
use Rattle.laws.specs.Floats.{f64, +0, finite}
use Rattle.surface.specs.declared.types.Run.{Run}
use Rattle.surface.specs.declared.types.ShortExpiryPolicy.{ShortExpiryPolicy}
use Rattle.surface.specs.Runs.{taus_of}
use Rattle.surface.specs.Surface.{tols_of, surface_grid_number}
use Rattle.diagnostics.specs.declared.grid.Walk.{Walk}
use Rattle.diagnostics.specs.declared.report.DiagnosticsConfig.{DiagnosticsConfig}
use Rattle.diagnostics.specs.declared.report.SurfaceDiagnostics.{SurfaceDiagnostics}
use Rattle.diagnostics.specs.Tally.{is_clean}
use Rattle.diagnostics.specs.Walk.{State, seen_on, walk_of}

-- 1e-10 and 1e-12
abbrev pub default_config : DiagnosticsConfig
default_config = record { butterfly_tolerance = f64 0x3ddb_7cdf_d9d7_bdbb; calendar_tolerance = f64 0x3d71_9799_812d_ea11 }

-- finite and not below zero
abbrev pub tolerable : Float → Bool
tolerable t = finite t && le +0 t

-- 42 unless both tolerances are finite and >= 0
unfoldable pub tolerance_number : DiagnosticsConfig → ℕ
tolerance_number t = unless (tolerable t.butterfly_tolerance && tolerable t.calendar_tolerance) 42 0

-- 12, room for three numbers a grid point; 11 to 41, the surface and the axes; 42
unfoldable pub diagnose_number : Run → List Float → List Float → DiagnosticsConfig → ℕ → ℕ
diagnose_number run ks taus tol room =
    cond (ltb room (3 * (length ks * length taus))) 12
    (refusing (surface_grid_number run ks taus) (λ n. n)
    (tolerance_number tol))

unfoldable pub report_of : Walk → SurfaceDiagnostics
report_of s = record { butterfly = s.butterfly; calendar_slope = s.slope; calendar_gap = s.gap; evaluation_failures = s.failed }

-- `is_clean` of a report: no violation and no failure
unfoldable pub report_clean : SurfaceDiagnostics → Bool
report_clean d = ((is_clean d.butterfly && is_clean d.calendar_slope) && is_clean d.calendar_gap) && eqb d.evaluation_failures 0

-- an answer, and what the lent room holds beside it
pub record WithRoom : Type 0 where
  pub answer : Result SurfaceDiagnostics ℕ
  pub room : List Float

abbrev pub with_room : Result SurfaceDiagnostics ℕ → List Float → WithRoom
with_room d room = record { answer = d; room = room }

unfoldable pub reported : State → WithRoom
reported st = with_room (Ok (report_of st.walk)) st.room

-- `diagnose`: a refusal leaves the room as it was
unfoldable pub diagnose_of : Run → ShortExpiryPolicy → List Float → List Float → DiagnosticsConfig → List Float → WithRoom
diagnose_of run policy ks taus tol room =
    refusing (diagnose_number run ks taus tol (length room)) (λ n. with_room (Err n) room)
    (reported (walk_of (seen_on run.recs (taus_of run.recs) (tols_of run) run.count policy) tol ks taus room))

-- the number of an answer: 0 for a report
abbrev pub diagnosed_number : Result SurfaceDiagnostics ℕ → ℕ
diagnosed_number (Ok d) = 0
diagnosed_number (Err n) = n
