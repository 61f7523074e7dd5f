-- A report of `diagnose`: every grid point is one butterfly point or one failure, and never both; the slope's points are the butterfly's. Assumes nothing.
use mathlib.Core.Path.{◌≡◌, refl, sym, ap, ◌∙◌}
use mathlib.Core.Bool.{true}
use mathlib.Core.List.{List, []}
use mathlib.Core.Logic.{◌⊎◌, inl, inr}
use Prim.Native.Nat.{ℕ, ◌+◌, ◌*◌, ◌<◌}
use native.Mathlib.Omega.{arith}
use lib.ListN.{length}
use lib.Ieee.{Float}
use borrow.Author.Tests.{lt-ltb}
use Rattle.surface.specs.declared.types.Run.{Run}
use Rattle.surface.specs.declared.types.ShortExpiryPolicy.{ShortExpiryPolicy}
use Rattle.diagnostics.specs.declared.grid.Walk.{Walk}
use Rattle.diagnostics.specs.declared.points.Reading.{Reading}
use Rattle.std.specs.Prelude.{Result, Ok, Err}
use Rattle.diagnostics.specs.declared.report.DiagnosticsConfig.{DiagnosticsConfig}
use Rattle.diagnostics.specs.declared.report.SurfaceDiagnostics.{SurfaceDiagnostics}
use Rattle.diagnostics.specs.Tally.{one_more, recorded_of}
use Rattle.diagnostics.specs.Walk.{State, good_of, failed_of, visit_of, fresh_of, walk_start, walk_of}
use Rattle.diagnostics.specs.OnGrid.{butterfly_at, failure_of, seen_by}
use Rattle.diagnostics.specs.Diagnostics.{report_of, diagnose_of}
use Rattle.diagnostics.proofs.Walking.{walk_on, Accepted, accepted}

-- m points seen: so many of them are butterfly points, and the others failures
record Tallied (m : ℕ) (s : Walk) : Type 0 where
  each : s.butterfly.points + s.failed ≡ m
  slopes : s.slope.points ≡ s.butterfly.points

more_of : (n : ℕ) → n < 18446744073709551615 → one_more true n ≡ n + 1
unfolding one_more
more_of n h = rw (lt-ltb n 18446744073709551615 h)

visit_tallied : (m : ℕ) (st : State) (x : Result Reading ℕ) (k tau : Float) (tol : DiagnosticsConfig) → m < 18446744073709551615 → Tallied m st.walk → Tallied (m + 1) (visit_of st x k tau tol).walk
unfolding visit_of good_of failed_of recorded_of
visit_tallied m st (Ok r) k tau tol h t =
    let a = t.each in
    let b = t.slopes in
    let p : one_more true st.walk.butterfly.points ≡ st.walk.butterfly.points + 1 = more_of st.walk.butterfly.points (omega (arith, a)) in
    let q : one_more true st.walk.slope.points ≡ st.walk.slope.points + 1 = more_of st.walk.slope.points (omega (arith, a, b)) in
    record { each = omega (arith, a, p); slopes = omega (arith, b, p, q) }
visit_tallied m st (Err n) k tau tol h t = let a = t.each in record { each = omega (arith, a); slopes = t.slopes }

module _ (run : Run) (policy : ShortExpiryPolicy) (ks taus : List Float) (tol : DiagnosticsConfig) (room : List Float) (d : SurfaceDiagnostics) (done : (diagnose_of run policy ks taus tol room).answer ≡ Ok d) where
  a : Accepted run policy ks taus tol room d
  a = accepted run policy ks taus tol room d done

  tallied : Tallied (length ks * length taus) (walk_of (seen_by run policy) tol ks taus room).walk
  unfolding walk_start fresh_of
  tallied =
      let few = a.few in
      walk_on (seen_by run policy) tol (λ k tau. failure_of k tau (seen_by run policy k tau)) (λ (m : ℕ) (l : List Float) (st : State). Tallied m st.walk) ks taus
      (λ m l st k tau h p. visit_tallied m st (seen_by run policy k tau) k tau tol (omega (arith, h, few)) p)
      (λ m l st p. record { each = p.each; slopes = p.slopes })
      room
      (record { each = refl; slopes = refl })

  -- every grid point is counted once
  pub every_point : d.butterfly.points + d.evaluation_failures ≡ length ks * length taus
  unfolding report_of
  every_point = ap (λ (d : SurfaceDiagnostics). d.butterfly.points + d.evaluation_failures) a.report ∙ tallied.each

  pub slope_points : d.calendar_slope.points ≡ d.butterfly.points
  unfolding report_of
  slope_points = ap (λ (d : SurfaceDiagnostics). d.calendar_slope.points) a.report ∙ tallied.slopes ∙ ap (λ (d : SurfaceDiagnostics). d.butterfly.points) (sym a.report)

-- never both: a point has a butterfly value and no failure, or a failure, three numbers, and no butterfly value
pub one_of : (k tau : Float) (x : Result Reading ℕ) → ((length (butterfly_at k tau x) ≡ 1) × (failure_of k tau x ≡ [])) ⊎ ((butterfly_at k tau x ≡ []) × (length (failure_of k tau x) ≡ 3))
one_of k tau (Ok r) = inl (refl, refl)
one_of k tau (Err n) = inr (refl, refl)
