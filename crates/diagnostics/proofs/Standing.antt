-- The test of the lent room, by division; the states of the two loops, and their invariants. Assumes nothing.
use mathlib.Core.Path.{◌≡◌, refl, sym, ◌∙◌, ap}
use mathlib.Core.Bool.{Bool, true, false, cond}
use mathlib.Core.List.{List}
use Prim.Native.Nat.{ℕ, ◌+◌, ◌*◌, ◌/◌, ◌≤◌, ◌<◌}
use native.Mathlib.Nat.{div-lt_iff_lt-mul, mul-zero, mul-le-mul_right}
use native.Mathlib.Omega.{arith}
use lib.Dec.{ltb}
use lib.Ieee.{Float}
use borrow.Author.Tests.{le-ltb, ltb-true, ltb-false}
use Rattle.diagnostics.specs.declared.tally.Check.{Check}
use Rattle.diagnostics.specs.declared.grid.Previous.{Previous}
use Rattle.diagnostics.specs.declared.grid.Walk.{Walk}
use Rattle.diagnostics.specs.declared.points.Reading.{Reading}
use Rattle.std.specs.Prelude.{Option, Result, Ok}
use lib.ListN.{length}
use Rattle.laws.specs.Floats.{at}
use Rattle.laws.specs.Loop.{for}
use Rattle.laws.proofs.Loops.{again, ended}
use Rattle.diagnostics.specs.declared.report.DiagnosticsConfig.{DiagnosticsConfig}
use Rattle.diagnostics.specs.Walk.{State, walk_in, visit_of, PointFn, row_turn, walk_turn, fresh_of, taus_at, walk_start, walk_of}
use Rattle.diagnostics.specs.Diagnostics.{WithRoom, diagnose_number, report_of, reported, with_room}
use Rattle.diagnostics.specs.declared.report.SurfaceDiagnostics.{SurfaceDiagnostics}
use Rattle.surface.specs.declared.types.Run.{Run}

pub same_walk : {a b : Walk} {l : List Float} → a ≡ b → walk_in a l ≡ walk_in b l
same_walk {a} {b} {l} e = ap (λ (w : Walk). walk_in w l) e

-- two tests that say the same
same_by : (a b c d : ℕ) → (a < b → c < d) → (c < d → a < b) → (s t : Bool) → ltb a b ≡ s → ltb c d ≡ t → s ≡ t
same_by a b c d f g true true e h = refl
same_by a b c d f g true false e h = absurd (omega (arith, f (ltb-true a b e), ltb-false c d h))
same_by a b c d f g false true e h = absurd (omega (arith, g (ltb-true c d h), ltb-false a b e))
same_by a b c d f g false false e h = refl

same_test : (a b c d : ℕ) → (a < b → c < d) → (c < d → a < b) → ltb a b ≡ ltb c d
same_test a b c d f g = same_by a b c d f g (ltb a b) (ltb c d) refl refl

pub no_tau : (room nk nt : ℕ) → nt ≡ 0 → false ≡ ltb room (3 * (nk * nt))
no_tau room nk nt z = sym (le-ltb room (3 * (nk * nt)) (rw (z, mul-zero) (omega arith)))

pub by_division : (room nk nt : ℕ) → (nt ≡ 0 → ⊥) → ltb (room / 3 / nt) nk ≡ ltb room (3 * (nk * nt))
by_division room nk nt nz = same_test (room / 3 / nt) nk room (3 * (nk * nt)) there back
  where
    pos : 0 < nt
    pos = omega (arith, nz)

    three : 0 < 3
    three = omega arith

    there : room / 3 / nt < nk → room < 3 * (nk * nt)
    there h = let a = (div-lt_iff_lt-mul pos).0 h in let b = (div-lt_iff_lt-mul three).0 a in omega (arith, b)

    back : room < 3 * (nk * nt) → room / 3 / nt < nk
    back h = let a : room < nk * nt * 3 = omega (arith, h) in (div-lt_iff_lt-mul pos).1 ((div-lt_iff_lt-mul three).1 a)

-- at the head of a row's loop: what is left to do, done to the present state, is the whole; and there is room
pub record RowInv (f : PointFn) (tol : DiagnosticsConfig) (axis : List Float) (k : Float) (room₀ : List Float) (s₀ : Walk) (room : List Float) (s : Walk) (j : ℕ) : Type 0 where
  pub same : length room ≡ length room₀
  pub few : s.failed ≤ s₀.failed + j
  pub left : for j (length axis) (row_turn f tol axis k) (walk_in s room) ≡ for 0 (length axis) (row_turn f tol axis k) (walk_in s₀ room₀)

-- the same of the loop over k
pub record WalkInv (f : PointFn) (tol : DiagnosticsConfig) (ks axis : List Float) (room₀ : List Float) (s₀ : Walk) (room : List Float) (s : Walk) (i : ℕ) : Type 0 where
  pub same : length room ≡ length room₀
  pub few : s.failed ≤ i * length axis
  pub left : for i (length ks) (walk_turn f tol ks axis) (walk_in s room) ≡ for 0 (length ks) (walk_turn f tol ks axis) (walk_in s₀ room₀)

-- a row begins with as many failures as were counted before it
pub row_starts : (from : Walk) {s : Walk} → s ≡ fresh_of from → s.failed ≡ from.failed
unfolding fresh_of
row_starts from e = ap (λ (w : Walk). w.failed) e

pub none_more : (n : ℕ) → n ≤ n + 0
none_more n = omega arith

module _ {f : PointFn} {tol : DiagnosticsConfig} {axis : List Float} {k : Float} {room₀ : List Float} {s₀ : Walk} {room : List Float} {s : Walk} {j : ℕ} (i : RowInv f tol axis k room₀ s₀ room s j) (from : Walk) (e : s₀ ≡ fresh_of from) where
  -- room for one more failure
  pub point_room : 3 * (from.failed + length axis) ≤ length room₀ → j < length axis → 3 * s.failed + 3 ≤ length room
  point_room h l = omega (arith, row_starts from e, h, i.same, i.few)

  pub point_few : {n : ℕ} → n ≤ s.failed + 1 → n ≤ s₀.failed + (j + 1)
  point_few {n} h = omega (arith, i.few)

  -- one visit of what is seen at the point
  pub point_on : {a : Result Reading ℕ} (w : Walk) (l : List Float) → j < length axis → walk_in w l ≡ visit_of (walk_in s room) a k (at axis j) tol → a ≡ f k (at axis j)
      → for (j + 1) (length axis) (row_turn f tol axis k) (walk_in w l) ≡ for 0 (length axis) (row_turn f tol axis k) (walk_in s₀ room₀)
  point_on w l h e same = again (row_turn f tol axis k) j (length axis) h (e ∙ ap (λ (x : Result Reading ℕ). visit_of (walk_in s room) x k (at axis j) tol) same) i.left

  -- at the end of the row
  pub row_few : j ≤ length axis → s.failed ≤ from.failed + length axis
  row_few l = omega (arith, row_starts from e, i.few)

  pub row_is : length axis ≤ j → walk_in s room ≡ taus_at f tol axis k (walk_in from room₀)
  unfolding taus_at
  row_is l = ended (row_turn f tol axis k) j (length axis) l i.left ∙ ap (λ (w : Walk). for 0 (length axis) (row_turn f tol axis k) (walk_in w room₀)) e

module _ {f : PointFn} {tol : DiagnosticsConfig} {ks axis : List Float} {room₀ : List Float} {s₀ : Walk} {room : List Float} {s : Walk} {j : ℕ} (i : WalkInv f tol ks axis room₀ s₀ room s j) where
  -- room for one more row
  pub row_room : 3 * (length ks * length axis) ≤ length room₀ → j < length ks → 3 * (s.failed + length axis) ≤ length room
  row_room h l =
      let a : (j + 1) * length axis ≤ length ks * length axis = mul-le-mul_right (length axis) (omega arith) in
      omega (arith, a, i.few, h, i.same)

  pub rows_few : {n : ℕ} → n ≤ s.failed + length axis → n ≤ (j + 1) * length axis
  rows_few {n} h = omega (arith, h, i.few)

  -- one row
  pub row_on : (w : Walk) (l : List Float) → j < length ks → walk_in w l ≡ taus_at f tol axis (at ks j) (walk_in s room) → for (j + 1) (length ks) (walk_turn f tol ks axis) (walk_in w l) ≡ for 0 (length ks) (walk_turn f tol ks axis) (walk_in s₀ room₀)
  row_on w l h e = again (walk_turn f tol ks axis) j (length ks) h e i.left

  pub walk_is : length ks ≤ j → s₀ ≡ walk_start → walk_in s room ≡ walk_of f tol ks axis room₀
  unfolding walk_of
  walk_is l e = ended (walk_turn f tol ks axis) j (length ks) l i.left ∙ ap (λ (w : Walk). for 0 (length ks) (walk_turn f tol ks axis) (walk_in w room₀)) e

-- a walk begins with no failure
pub walk_starts : {s : Walk} (n : ℕ) → s ≡ walk_start → s.failed ≤ 0 * n
unfolding walk_start
walk_starts n e = let z = ap (λ (w : Walk). w.failed) e in omega (arith, z)

no_refusal : (b : Bool) (m : ℕ) → cond b 12 m ≡ 0 → b ≡ false
no_refusal true m h = absurd (omega (arith, h))
no_refusal false m h = refl

-- what the tests say of a call that is not refused
pub room_enough : (run : Run) (ks axis : List Float) (tol : DiagnosticsConfig) (room : ℕ) {r : ℕ} → r ≡ diagnose_number run ks axis tol room → r ≡ 0 → 3 * (length ks * length axis) ≤ room
unfolding diagnose_number
room_enough run ks axis tol room {r} e z = ltb-false room (3 * (length ks * length axis)) (no_refusal (ltb room (3 * (length ks * length axis))) _ (sym e ∙ z))

pub report_is : {w : Walk} {room : List Float} {rep : SurfaceDiagnostics} {st : State} → rep ≡ report_of w → walk_in w room ≡ st → with_room (Ok rep) room ≡ reported st
unfolding reported
report_is {w} {room} e h = ap (λ (r : SurfaceDiagnostics). with_room (Ok r) room) e ∙ ap reported h

-- an outcome's two halves
pub halves : (o : WithRoom) {d : Result SurfaceDiagnostics ℕ} {zs : List Float} → with_room d zs ≡ o → (d ≡ o.answer) × (zs ≡ o.room)
halves o e = (ap (λ (x : WithRoom). x.answer) e, ap (λ (x : WithRoom). x.room) e)

-- a walk after a good point, tally by tally
pub good_by : {b b' s s' g g' : Check} (n : ℕ) (p : Option Previous) → b ≡ b' → s ≡ s' → g ≡ g'
    → ◌≡◌ {A = Walk} (record { butterfly = b; slope = s; gap = g; failed = n; previous = p }) (record { butterfly = b'; slope = s'; gap = g'; failed = n; previous = p })
good_by n p e h k = λ i. record { butterfly = e i; slope = h i; gap = k i; failed = n; previous = p }
