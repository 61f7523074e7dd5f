-- The walk, value by value of its axes: what each visit keeps holds at its end. And what an answer that is a report says: the tests passed, and it is the walk's. Assumes nothing.
use mathlib.Core.Path.{◌≡◌, refl, sym, ap, subst, ◌∙◌}
use mathlib.Core.Bool.{Bool, true, false, ◌||◌, cond}
use mathlib.Core.List.{List, [], ◌∷◌, ◌++◌, append-nil, append_assoc, flat_map}
use Prim.Native.Nat.{ℕ, ◌+◌, ◌*◌, ◌-◌, ◌≤◌, ◌<◌}
use native.Mathlib.Nat.{mul-le-mul}
use native.Mathlib.Omega.{arith}
use lib.Dec.{eqb, ltb}
use lib.ListN.{length, length-append}
use lib.Seq.{append_snoc, get_or_at}
use lib.Ieee.{Float, nan}
use borrow.Author.Tests.{eqb-true, ltb-false}
use Rattle.laws.specs.Choice.{unless}
use Rattle.laws.specs.Floats.{at}
use Rattle.laws.specs.Loop.{turns, for}
use Rattle.laws.proofs.Choices.{passed_number}
use Rattle.surface.specs.declared.types.Run.{Run}
use Rattle.surface.specs.declared.types.ShortExpiryPolicy.{ShortExpiryPolicy}
use Rattle.surface.specs.Surface.{surface_grid_number}
use Rattle.diagnostics.specs.declared.report.DiagnosticsConfig.{DiagnosticsConfig}
use Rattle.diagnostics.specs.declared.report.SurfaceDiagnostics.{SurfaceDiagnostics}
use Rattle.std.specs.Prelude.{Ok, Err}
use Rattle.diagnostics.specs.Walk.{State, walk_in, visit_of, fresh_of, walk_start, taus_at, walk_of, PointFn}
use Rattle.diagnostics.specs.OnGrid.{over_grid, seen_by}
use Rattle.diagnostics.specs.Diagnostics.{WithRoom, with_room, report_of, reported, tolerance_number, diagnose_number, diagnose_of}
use Rattle.diagnostics.proofs.Standing.{room_enough}

-- ---- a loop over the places of an axis is one turn for each of its values

module _ {S : Type 0} (turn : Float → S → S) where
  unfoldable pub each : List Float → S → S
  each [] s = s
  each (x ∷ xs) s = each xs (turn x s)

  along : (done xs : List Float) (a : ℕ) → length done ≡ a → (s : S) → turns (λ i. turn (at (done ++ xs) i)) (length xs) a s ≡ each xs s
  unfolding turns each
  along done [] a e s = refl
  along done (x ∷ xs) a e s =
      ap (λ (y : Float). turns (λ i. turn (at (done ++ (x ∷ xs)) i)) (length xs) (a + 1) (turn y s)) (get_or_at done x xs nan a e)
      ∙ subst (λ (l : List Float). turns (λ i. turn (at l i)) (length xs) (a + 1) (turn x s) ≡ each xs (turn x s)) (append_snoc done x xs)
      (along (done ++ (x ∷ [])) xs (a + 1) (length-append done (x ∷ []) ∙ ap (λ (n : ℕ). n + 1) e) (turn x s))

  by_values : (xs : List Float) (s : S) → for 0 (length xs) (λ i. turn (at xs i)) s ≡ each xs s
  by_values xs s =
      let whole : length xs - 0 ≡ length xs = omega arith in
      ap (λ (n : ℕ). turns (λ i. turn (at xs i)) n 0 s) whole ∙ along [] xs 0 refl s

module _ (f : PointFn) (tol : DiagnosticsConfig) where
  abbrev pub visit_turn : Float → Float → State → State
  visit_turn k tau st = visit_of st (f k tau) k tau tol

  -- one k, over the tau axis
  pub row_is : (axis : List Float) (k : Float) (st : State) → taus_at f tol axis k st ≡ each (visit_turn k) axis (walk_in (fresh_of st.walk) st.room)
  unfolding taus_at
  row_is axis k st = by_values (visit_turn k) axis (walk_in (fresh_of st.walk) st.room)

  -- every k
  pub walk_is : (ks axis room : List Float) → walk_of f tol ks axis room ≡ each (taus_at f tol axis) ks (walk_in walk_start room)
  unfolding walk_of
  walk_is ks axis room = by_values (taus_at f tol axis) ks (walk_in walk_start room)

  -- what each visit keeps, of the number of points seen, of what was listed of them, and of the state: at the end all points are seen and listed
  module _ {A : Type 0} (g : Float → Float → List A) (P : ℕ → List A → State → Type 0) (ks axis : List Float)
      (visit : (m : ℕ) (l : List A) (st : State) (k tau : Float) → m < length ks * length axis → P m l st → P (m + 1) (l ++ g k tau) (visit_turn k tau st))
      (fresh : (m : ℕ) (l : List A) (st : State) → P m l st → P m l (walk_in (fresh_of st.walk) st.room)) where
    moved : {m n : ℕ} {l r : List A} (st : State) → m ≡ n → l ≡ r → P m l st → P n r st
    moved {m} {n} {l} {r} st e h p = subst (λ (n : ℕ). P n r st) e (subst (λ (r : List A). P m r st) h p)

    row_on : (k : Float) (xs : List Float) (m : ℕ) (l : List A) (st : State) → m + length xs ≤ length ks * length axis → P m l st → P (m + length xs) (l ++ flat_map (g k) xs) (each (visit_turn k) xs st)
    unfolding flat_map each
    row_on k [] m l st h p = moved st (omega arith) (sym (append-nil l)) p
    row_on k (x ∷ xs) m l st h p = moved (each (visit_turn k) xs (visit_turn k x st)) (omega arith) (append_assoc l (g k x) (flat_map (g k) xs)) (row_on k xs (m + 1) (l ++ g k x) (visit_turn k x st) (omega (arith, h)) (visit m l st k x (omega (arith, h)) p))

    rows_on : (ys : List Float) (m : ℕ) (l : List A) (st : State) → m + length ys * length axis ≤ length ks * length axis → P m l st → P (m + length ys * length axis) (l ++ over_grid g ys axis) (each (taus_at f tol axis) ys st)
    unfolding flat_map each
    rows_on [] m l st h p = moved st (omega arith) (sym (append-nil l)) p
    rows_on (y ∷ ys) m l st h p =
        let r : P (m + length axis) (l ++ flat_map (g y) axis) (taus_at f tol axis y st) = subst (P (m + length axis) (l ++ flat_map (g y) axis)) (sym (row_is axis y st)) (row_on y axis m l _ (omega (arith, h)) (fresh m l st p)) in
        moved (each (taus_at f tol axis) ys (taus_at f tol axis y st)) (omega arith) (append_assoc l (flat_map (g y) axis) (over_grid g ys axis)) (rows_on ys (m + length axis) (l ++ flat_map (g y) axis) (taus_at f tol axis y st) (omega (arith, h)) r)

    pub walk_on : (room : List Float) → P 0 [] (walk_in walk_start room) → P (length ks * length axis) (over_grid g ks axis) (walk_of f tol ks axis room)
    walk_on room p = subst (P (length ks * length axis) (over_grid g ks axis)) (sym (walk_is ks axis room)) (moved (each (taus_at f tol axis) ks (walk_in walk_start room)) (omega arith) refl (rows_on ks 0 [] (walk_in walk_start room) (omega arith) p))

-- ---- an answer that is a report

neither : (a b : Bool) (m : ℕ) → cond (a || b) 11 m ≡ 0 → (a ≡ false) × (b ≡ false)
neither true b m h = absurd (omega (arith, h))
neither false true m h = absurd (omega (arith, h))
neither false false m h = (refl, refl)

no_12 : (b : Bool) (m : ℕ) → cond b 12 m ≡ 0 → m ≡ 0
no_12 true m h = absurd (omega (arith, h))
no_12 false m h = h

module _ (run : Run) (policy : ShortExpiryPolicy) (ks axis : List Float) (tol : DiagnosticsConfig) (room : List Float) (d : SurfaceDiagnostics) where
  abbrev walked : State
  walked = walk_of (seen_by run policy) tol ks axis room

  abbrev out : Bool → WithRoom
  out b = unless b (with_room (Err (diagnose_number run ks axis tol (length room))) room) (reported walked)

  pub record Accepted : Type 0 where
    pub few : length ks * length axis ≤ 4096
    pub enough : 3 * (length ks * length axis) ≤ length room
    pub report : d ≡ report_of walked.walk
    pub after : (diagnose_of run policy ks axis tol room).room ≡ walked.room

  passed : diagnose_number run ks axis tol (length room) ≡ 0 → (length ks ≤ 64) × (length axis ≤ 64)
  unfolding diagnose_number surface_grid_number
  passed z =
      let e : surface_grid_number run ks axis ≡ 0 = (passed_number (surface_grid_number run ks axis) (tolerance_number tol) (no_12 (ltb (length room) (3 * (length ks * length axis))) _ z)).0 in
      let n = neither (ltb 64 (length ks)) (ltb 64 (length axis)) _ e in
      (ltb-false 64 (length ks) n.0, ltb-false 64 (length axis) n.1)

  pub accepted : (diagnose_of run policy ks axis tol room).answer ≡ Ok d → Accepted
  unfolding diagnose_of reported
  accepted h = go (eqb (diagnose_number run ks axis tol (length room)) 0) refl h refl
    where
      go : (b : Bool) → eqb (diagnose_number run ks axis tol (length room)) 0 ≡ b → (out b).answer ≡ Ok d → (diagnose_of run policy ks axis tol room).room ≡ (out b).room → Accepted
      go false e h r = let z : ◌≡◌ {A = ℕ} 0 1 = cc in absurd (omega arith)
      go true e h r =
          let z : diagnose_number run ks axis tol (length room) ≡ 0 = eqb-true (diagnose_number run ks axis tol (length room)) 0 e in
          let l = passed z in
          let m : length ks * length axis ≤ 64 * 64 = mul-le-mul l.0 l.1 in
          record { few = m; enough = room_enough run ks axis tol (length room) refl z; report = cc; after = r }
