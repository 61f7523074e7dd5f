-- A report of `diagnose`: the butterfly tally is that of the butterfly values of the points that did not fail, in walking order, and the slope tally that of their slopes. Assumes nothing.
use mathlib.Core.Path.{◌≡◌, refl, sym, ap, ◌∙◌}
use mathlib.Core.List.{List, [], ◌∷◌, ◌++◌, append-nil}
use Prim.Native.Nat.{ℕ}
use lib.Ieee.{Float}
use Rattle.surface.specs.declared.types.Run.{Run}
use Rattle.surface.specs.declared.types.ShortExpiryPolicy.{ShortExpiryPolicy}
use Rattle.diagnostics.specs.declared.tally.DiagnosticPoint.{DiagnosticPoint}
use Rattle.diagnostics.specs.declared.tally.Check.{Check}
use Rattle.diagnostics.specs.declared.points.Reading.{Reading}
use Rattle.std.specs.Prelude.{Result, Ok, Err}
use Rattle.diagnostics.specs.declared.report.DiagnosticsConfig.{DiagnosticsConfig}
use Rattle.diagnostics.specs.declared.report.SurfaceDiagnostics.{SurfaceDiagnostics}
use Rattle.diagnostics.specs.Tally.{point_at, recorded_of}
use Rattle.diagnostics.specs.Recorded.{recorded_all, tally_of}
use Rattle.diagnostics.specs.Walk.{State, good_of, failed_of, visit_of, fresh_of, walk_start}
use Rattle.diagnostics.specs.OnGrid.{butterfly_at, slope_at, butterflies_on, slopes_on, seen_by}
use Rattle.diagnostics.specs.Diagnostics.{report_of, diagnose_of}
use Rattle.diagnostics.proofs.Walking.{walk_on, accepted}

-- points behind others are recorded on top of their tally
pub recorded_on : (c : Check) (ps qs : List DiagnosticPoint) (t : Float) → recorded_all c (ps ++ qs) t ≡ recorded_all (recorded_all c ps t) qs t
unfolding recorded_all
recorded_on c [] qs t = refl
recorded_on c (p ∷ ps) qs t = recorded_on (recorded_of c p t) ps qs t

module _ (l : List DiagnosticPoint) (t : Float) {c : Check} (e : c ≡ tally_of l t) where
  one_more : (p : DiagnosticPoint) → recorded_of c p t ≡ tally_of (l ++ (p ∷ [])) t
  unfolding recorded_all
  one_more p = ap (λ (c : Check). recorded_of c p t) e ∙ sym (recorded_on _ l (p ∷ []) t)

  none_more : c ≡ tally_of (l ++ []) t
  none_more = e ∙ ap (λ (l : List DiagnosticPoint). tally_of l t) (sym (append-nil l))

butterfly_visit : (st : State) (x : Result Reading ℕ) (k tau : Float) (tol : DiagnosticsConfig) (l : List DiagnosticPoint) → st.walk.butterfly ≡ tally_of l tol.butterfly_tolerance → (visit_of st x k tau tol).walk.butterfly ≡ tally_of (l ++ butterfly_at k tau x) tol.butterfly_tolerance
unfolding visit_of good_of failed_of
butterfly_visit st (Ok r) k tau tol l e = one_more l tol.butterfly_tolerance e (point_at k tau r.g)
butterfly_visit st (Err n) k tau tol l e = none_more l tol.butterfly_tolerance e

slope_visit : (st : State) (x : Result Reading ℕ) (k tau : Float) (tol : DiagnosticsConfig) (l : List DiagnosticPoint) → st.walk.slope ≡ tally_of l tol.calendar_tolerance → (visit_of st x k tau tol).walk.slope ≡ tally_of (l ++ slope_at k tau x) tol.calendar_tolerance
unfolding visit_of good_of failed_of
slope_visit st (Ok r) k tau tol l e = one_more l tol.calendar_tolerance e (point_at k tau r.w_tau)
slope_visit st (Err n) k tau tol l e = none_more l tol.calendar_tolerance e

module _ (run : Run) (policy : ShortExpiryPolicy) (ks taus : List Float) (tol : DiagnosticsConfig) (room : List Float) (d : SurfaceDiagnostics) (done : (diagnose_of run policy ks taus tol room).answer ≡ Ok d) where
  pub butterfly_tally : d.butterfly ≡ tally_of (butterflies_on (seen_by run policy) ks taus) tol.butterfly_tolerance
  unfolding report_of walk_start fresh_of recorded_all
  butterfly_tally =
      ap (λ (d : SurfaceDiagnostics). d.butterfly) (accepted run policy ks taus tol room d done).report
      ∙ walk_on (seen_by run policy) tol (λ k tau. butterfly_at k tau (seen_by run policy k tau)) (λ (m : ℕ) (l : List DiagnosticPoint) (st : State). st.walk.butterfly ≡ tally_of l tol.butterfly_tolerance) ks taus
      (λ m l st k tau h p. butterfly_visit st (seen_by run policy k tau) k tau tol l p)
      (λ m l st p. p)
      room
      refl

  pub slope_tally : d.calendar_slope ≡ tally_of (slopes_on (seen_by run policy) ks taus) tol.calendar_tolerance
  unfolding report_of walk_start fresh_of recorded_all
  slope_tally =
      ap (λ (d : SurfaceDiagnostics). d.calendar_slope) (accepted run policy ks taus tol room d done).report
      ∙ walk_on (seen_by run policy) tol (λ k tau. slope_at k tau (seen_by run policy k tau)) (λ (m : ℕ) (l : List DiagnosticPoint) (st : State). st.walk.slope ≡ tally_of l tol.calendar_tolerance) ks taus
      (λ m l st k tau h p. slope_visit st (seen_by run policy k tau) k tau tol l p)
      (λ m l st p. p)
      room
      refl
