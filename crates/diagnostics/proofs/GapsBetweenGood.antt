-- A report of `diagnose`: the gap tally is exactly that of the neighbouring pairs of which neither failed, in walking order, each recorded at the earlier tau: no pair more, none less. Assumes nothing.
use mathlib.Core.Path.{◌≡◌, refl, sym, ap, ◌∙◌}
use mathlib.Core.List.{List, [], ◌∷◌, flat_map}
use lib.Ieee.{Float}
use Rattle.surface.specs.declared.types.Run.{Run}
use Rattle.surface.specs.declared.types.ShortExpiryPolicy.{ShortExpiryPolicy}
use Rattle.diagnostics.specs.declared.tally.DiagnosticPoint.{DiagnosticPoint}
use Rattle.diagnostics.specs.declared.tally.Check.{Check}
use Rattle.diagnostics.specs.declared.points.Reading.{Reading}
use Rattle.std.specs.Prelude.{ℕ, Option, Some, Result, Ok, Err}
use Rattle.diagnostics.specs.declared.grid.Previous.{Previous}
use Rattle.diagnostics.specs.declared.report.DiagnosticsConfig.{DiagnosticsConfig}
use Rattle.diagnostics.specs.declared.report.SurfaceDiagnostics.{SurfaceDiagnostics}
use Rattle.diagnostics.specs.Recorded.{recorded_all, tally_of}
use Rattle.diagnostics.specs.Walk.{State, walk_in, gap_of, good_of, failed_of, no_previous, visit_of, fresh_of, walk_start, taus_at, walk_of, PointFn}
use Rattle.diagnostics.specs.OnGrid.{gap_between, pairs_from, over_pairs, gaps_on, seen_by}
use Rattle.diagnostics.specs.Diagnostics.{report_of, diagnose_of}
use Rattle.diagnostics.proofs.Walking.{each, visit_turn, row_is, walk_is, accepted}
use Rattle.diagnostics.proofs.TalliesInOrder.{recorded_on}

-- what stands before the point after this one
abbrev kept : Float → Result Reading ℕ → Option Previous
kept tau (Ok r) = Some (record { tau = tau; w = r.w })
kept tau (Err n) = no_previous

visit_previous : (st : State) (x : Result Reading ℕ) (k tau : Float) (tol : DiagnosticsConfig) → (visit_of st x k tau tol).walk.previous ≡ kept tau x
unfolding visit_of good_of failed_of
visit_previous st (Ok r) k tau tol = refl
visit_previous st (Err n) k tau tol = refl

visit_first : (st : State) (x : Result Reading ℕ) (k tau : Float) (tol : DiagnosticsConfig) → st.walk.previous ≡ no_previous → (visit_of st x k tau tol).walk.gap ≡ st.walk.gap
unfolding visit_of good_of failed_of
visit_first st (Ok r) k tau tol e = ap (λ (p : Option Previous). gap_of st.walk.gap p k r.w tol.calendar_tolerance) e
visit_first st (Err n) k tau tol e = refl

visit_next : (st : State) (x : Result Reading ℕ) (k tau : Float) (tol : DiagnosticsConfig) (y : Result Reading ℕ) (u : Float) → st.walk.previous ≡ kept u y → (visit_of st x k tau tol).walk.gap ≡ recorded_all st.walk.gap (gap_between k u y x) tol.calendar_tolerance
unfolding visit_of good_of failed_of recorded_all
visit_next st (Ok r) k tau tol (Ok r') u e = ap (λ (p : Option Previous). gap_of st.walk.gap p k r.w tol.calendar_tolerance) e
visit_next st (Ok r) k tau tol (Err n) u e = ap (λ (p : Option Previous). gap_of st.walk.gap p k r.w tol.calendar_tolerance) e
visit_next st (Err n) k tau tol (Ok r) u e = refl
visit_next st (Err n) k tau tol (Err m) u e = refl

module _ (f : PointFn) (tol : DiagnosticsConfig) where
  abbrev t : Float
  t = tol.calendar_tolerance

  abbrev pair : Float → Float → Float → List DiagnosticPoint
  pair k tau next = gap_between k tau (f k tau) (f k next)

  -- the points behind the one at u
  pairs_on : (k u : Float) (xs : List Float) (st : State) → st.walk.previous ≡ kept u (f k u) → (each (visit_turn f tol k) xs st).walk.gap ≡ recorded_all st.walk.gap (pairs_from (pair k) u xs) t
  unfolding each pairs_from recorded_all
  pairs_on k u [] st e = refl
  pairs_on k u (x ∷ xs) st e =
      pairs_on k x xs (visit_turn f tol k x st) (visit_previous st (f k x) k x tol)
      ∙ ap (λ (c : Check). recorded_all c (pairs_from (pair k) x xs) t) (visit_next st (f k x) k x tol (f k u) u e)
      ∙ sym (recorded_on st.walk.gap (pair k u x) (pairs_from (pair k) x xs) t)

  first_on : (k : Float) (xs : List Float) (st : State) → st.walk.previous ≡ no_previous → (each (visit_turn f tol k) xs st).walk.gap ≡ recorded_all st.walk.gap (over_pairs (pair k) xs) t
  unfolding each recorded_all
  first_on k [] st e = refl
  first_on k (x ∷ xs) st e =
      pairs_on k x xs (visit_turn f tol k x st) (visit_previous st (f k x) k x tol)
      ∙ ap (λ (c : Check). recorded_all c (pairs_from (pair k) x xs) t) (visit_first st (f k x) k x tol e)

  row_gaps : (axis : List Float) (k : Float) (st : State) → (taus_at f tol axis k st).walk.gap ≡ recorded_all st.walk.gap (over_pairs (pair k) axis) t
  unfolding fresh_of
  row_gaps axis k st = ap (λ (s : State). s.walk.gap) (row_is f tol axis k st) ∙ first_on k axis (walk_in (fresh_of st.walk) st.room) refl

  rows_gaps : (axis ks : List Float) (st : State) → (each (taus_at f tol axis) ks st).walk.gap ≡ recorded_all st.walk.gap (gaps_on f ks axis) t
  unfolding each flat_map recorded_all
  rows_gaps axis [] st = refl
  rows_gaps axis (k ∷ ks) st =
      rows_gaps axis ks (taus_at f tol axis k st)
      ∙ ap (λ (c : Check). recorded_all c (gaps_on f ks axis) t) (row_gaps axis k st)
      ∙ sym (recorded_on st.walk.gap (over_pairs (pair k) axis) (gaps_on f ks axis) t)

  walk_gaps : (ks axis room : List Float) → (walk_of f tol ks axis room).walk.gap ≡ tally_of (gaps_on f ks axis) t
  unfolding walk_start
  walk_gaps ks axis room = ap (λ (s : State). s.walk.gap) (walk_is f tol ks axis room) ∙ rows_gaps axis ks (walk_in walk_start room)

module _ (run : Run) (policy : ShortExpiryPolicy) (ks taus : List Float) (tol : DiagnosticsConfig) (room : List Float) (d : SurfaceDiagnostics) (done : (diagnose_of run policy ks taus tol room).answer ≡ Ok d) where
  pub gaps_between_good : d.calendar_gap ≡ tally_of (gaps_on (seen_by run policy) ks taus) tol.calendar_tolerance
  unfolding report_of
  gaps_between_good = ap (λ (d : SurfaceDiagnostics). d.calendar_gap) (accepted run policy ks taus tol room d done).report ∙ walk_gaps (seen_by run policy) tol ks taus room
