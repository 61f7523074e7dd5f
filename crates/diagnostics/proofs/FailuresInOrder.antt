-- A report of `diagnose`: its failures stand at the front of the lent room in walking order, k outside and tau inside, three numbers each (k, tau, the number), and the room beyond them is as it was. Assumes nothing.
use mathlib.Core.Path.{◌≡◌, refl, sym, ap, ◌∙◌}
use mathlib.Core.List.{List, [], ◌∷◌, ◌++◌, append-nil}
use Prim.Native.Nat.{ℕ, ◌+◌, ◌*◌, ◌≤◌}
use native.Mathlib.Omega.{arith}
use lib.ListN.{length, drop, set, length-append}
use lib.Ieee.{Float, nan}
use Rattle.laws.specs.Floats.{num}
use Rattle.laws.specs.Room.{at_front}
use Rattle.laws.proofs.Rooms.{put_next}
use Rattle.surface.specs.declared.types.Run.{Run}
use Rattle.surface.specs.declared.types.ShortExpiryPolicy.{ShortExpiryPolicy}
use Rattle.diagnostics.specs.declared.points.Reading.{Reading}
use Rattle.std.specs.Prelude.{Result, Ok, Err}
use Rattle.diagnostics.specs.declared.report.DiagnosticsConfig.{DiagnosticsConfig}
use Rattle.diagnostics.specs.declared.report.SurfaceDiagnostics.{SurfaceDiagnostics}
use Rattle.diagnostics.specs.Walk.{State, good_of, failed_of, failure_at, visit_of, fresh_of, walk_start, walk_of}
use Rattle.diagnostics.specs.OnGrid.{failure_of, failures_on, seen_by}
use Rattle.diagnostics.specs.Diagnostics.{report_of, diagnose_of}
use Rattle.diagnostics.proofs.Walking.{walk_on, Accepted, accepted}

-- the list stands at the front of what the room held, and its length is three numbers a failure
record Put (l before : List Float) (st : State) : Type 0 where
  written : st.room ≡ at_front l before
  long : length l ≡ 3 * st.walk.failed

three_more : (l : List Float) (a b c : Float) → ((l ++ (a ∷ [])) ++ (b ∷ [])) ++ (c ∷ []) ≡ l ++ (a ∷ b ∷ c ∷ [])
three_more [] a b c = refl
three_more (x ∷ l) a b c = ap (λ (t : List Float). x ∷ t) (three_more l a b c)

-- a failure is written behind those that stand there
put_three : (l o : List Float) (i : ℕ) (a b c : Float) → length l ≡ 3 * i → 3 * i + 3 ≤ length o
    → set (set (set (l ++ drop (3 * i) o) (3 * i) a) (3 * i + 1) b) (3 * i + 2) c ≡ (l ++ (a ∷ b ∷ c ∷ [])) ++ drop (3 * i + 3) o
put_three l o i a b c e h =
    let p : length (l ++ (a ∷ [])) ≡ 3 * i + 1 = length-append l (a ∷ []) ∙ ap (λ (n : ℕ). n + 1) e in
    let q : length ((l ++ (a ∷ [])) ++ (b ∷ [])) ≡ 3 * i + 2 = omega (arith, length-append (l ++ (a ∷ [])) (b ∷ []), p) in
    ap (λ (t : List Float). set (set t (3 * i + 1) b) (3 * i + 2) c) (put_next nan l o (3 * i) (3 * i + 1) a e (omega arith) (omega arith))
    ∙ ap (λ (t : List Float). set t (3 * i + 2) c) (put_next nan (l ++ (a ∷ [])) o (3 * i + 1) (3 * i + 2) b p (omega arith) (omega arith))
    ∙ put_next nan ((l ++ (a ∷ [])) ++ (b ∷ [])) o (3 * i + 2) (3 * i + 3) c q (omega arith) (omega arith)
    ∙ ap (λ (t : List Float). t ++ drop (3 * i + 3) o) (three_more l a b c)

visit_put : (st : State) (x : Result Reading ℕ) (k tau : Float) (tol : DiagnosticsConfig) (l before : List Float) → 3 * st.walk.failed + 3 ≤ length before → Put l before st → Put (l ++ failure_of k tau x) before (visit_of st x k tau tol)
unfolding visit_of good_of failed_of failure_at
visit_put st (Ok r) k tau tol l before h p =
    record {
      written = p.written ∙ ap (λ (t : List Float). at_front t before) (sym (append-nil l));
      long = ap length (append-nil l) ∙ p.long;
    }
visit_put st (Err n) k tau tol l before h p =
    let e : length (l ++ (k ∷ tau ∷ num n ∷ [])) ≡ 3 * st.walk.failed + 3 = length-append l (k ∷ tau ∷ num n ∷ []) ∙ ap (λ (q : ℕ). q + 3) p.long in
    record {
      written =
          ap (λ (t : List Float). set (set (set t (3 * st.walk.failed) k) (3 * st.walk.failed + 1) tau) (3 * st.walk.failed + 2) (num n)) (p.written ∙ ap (λ (q : ℕ). l ++ drop q before) p.long)
          ∙ put_three l before st.walk.failed k tau (num n) p.long h
          ∙ ap (λ (q : ℕ). (l ++ (k ∷ tau ∷ num n ∷ [])) ++ drop q before) (sym e);
      long = omega (arith, e);
    }

visit_few : (st : State) (x : Result Reading ℕ) (k tau : Float) (tol : DiagnosticsConfig) → (visit_of st x k tau tol).walk.failed ≤ st.walk.failed + 1
unfolding visit_of good_of failed_of
visit_few st (Ok r) k tau tol = omega arith
visit_few st (Err n) k tau tol = omega arith

module _ (run : Run) (policy : ShortExpiryPolicy) (ks taus : List Float) (tol : DiagnosticsConfig) (room : List Float) (d : SurfaceDiagnostics) (done : (diagnose_of run policy ks taus tol room).answer ≡ Ok d) where
  a : Accepted run policy ks taus tol room d
  a = accepted run policy ks taus tol room d done

  put : Put (failures_on (seen_by run policy) ks taus) room (walk_of (seen_by run policy) tol ks taus room)
  unfolding walk_start fresh_of
  put =
      let enough = a.enough in
      (walk_on (seen_by run policy) tol (λ k tau. failure_of k tau (seen_by run policy k tau)) (λ (m : ℕ) (l : List Float) (st : State). Put l room st × (st.walk.failed ≤ m)) ks taus
      (λ m l st k tau h p. (
        visit_put st (seen_by run policy k tau) k tau tol l room (omega (arith, h, enough, p.1)) p.0,
        omega (arith, visit_few st (seen_by run policy k tau) k tau tol, p.1),
      ))
      (λ m l st p. (record { written = p.0.written; long = p.0.long }, p.1))
      room
      (record { written = refl; long = refl }, omega arith)
      ).0

  pub failures_in_order : (diagnose_of run policy ks taus tol room).room ≡ at_front (failures_on (seen_by run policy) ks taus) room
  failures_in_order = a.after ∙ put.written

  -- and the report counts them
  pub failures_counted : length (failures_on (seen_by run policy) ks taus) ≡ 3 * d.evaluation_failures
  unfolding report_of
  failures_counted = put.long ∙ ap (λ (d : SurfaceDiagnostics). 3 * d.evaluation_failures) (sym a.report)
