-- 36 is given only where Reject is named: an answer of 36 from `bracket`, `region` or `total_variance`, and a failure of `diagnose` with the number 36, mean that the policy handed in is Reject; at the boundary to C, that the number handed in is 0. `diagnose` itself is never refused with 36. Of every surface and point, valid or not. Assumes nothing.
use mathlib.Core.Path.{◌≡◌, refl, sym, ap, subst, ◌∙◌}
use mathlib.Core.Bool.{false, ◌&&◌, ◌||◌}
use mathlib.Core.List.{List, [], ◌∷◌, ◌++◌, flat_map}
use mathlib.Core.Logic.{⊎_elim}
use Prim.Native.Nat.{ℕ, zero, suc, ◌+◌, ◌*◌, ◌^◌, ◌≤◌, ◌<◌}
use native.Mathlib.Nat.{le_trans, eq_of_mul-eq-mul_right}
use native.Mathlib.Omega.{arith}
use lib.Dec.{eqb, ltb, lit≤}
use lib.ListN.{length, drop, get_or-append}
use lib.Ieee.{Float, nan, inf, fin, down, lt}
use lib.Ieee.Exact.{HasValue}
use lib.Ieee.Fits.{down_pos}
use Rattle.laws.specs.Floats.{num, at, finite}
use Rattle.laws.proofs.Choices.{cond_ind}
use Rattle.laws.proofs.Ops.{num_value}
use Rattle.slice.specs.declared.SviSlice.{SviSlice}
use Rattle.point.specs.declared.TotalVariance.{TotalVariance}
use Rattle.point.specs.Point.{point_number}
use Rattle.surface.specs.declared.types.Run.{Run}
use Rattle.surface.specs.declared.types.ShortExpiryPolicy.{ShortExpiryPolicy}
use Rattle.surface.specs.declared.types.ShortExpiryPolicy.TheVariants.{Reject, ConstantVol}
use Rattle.surface.specs.declared.types.Bracket.{Bracket}
use Rattle.surface.specs.declared.types.Region.{Region}
use Rattle.surface.specs.Runs.{taus_of, check_run}
use Rattle.surface.specs.Lookup.{node_of, beyond_of, short_of, inside_of, lookup_of, bracket_of}
use Rattle.surface.specs.Surface.{region_in, variance_at, tols_of, bracket_in, bracket_run, region_run, total_run, surface_grid_number}
use Rattle.surface.specs.Axis.{rising_of, all_positive, grid_number}
use Rattle.diagnostics.specs.declared.points.Reading.{Reading}
use Rattle.diagnostics.specs.declared.report.DiagnosticsConfig.{DiagnosticsConfig}
use Rattle.diagnostics.specs.declared.report.SurfaceDiagnostics.{SurfaceDiagnostics}
use Rattle.diagnostics.specs.declared.report.SurfaceDiagnostics.{SurfaceDiagnostics}
use Rattle.diagnostics.specs.Walk.{butterfly_of, seen_of, seen_on}
use Rattle.diagnostics.specs.OnGrid.{failure_of, failures_on, seen_by}
use Rattle.diagnostics.specs.Diagnostics.{tolerable, tolerance_number, diagnose_number, diagnose_of, diagnosed_number}
use Rattle.diagnostics.proofs.FailuresInOrder.{failures_in_order, failures_counted}
use Rattle.diagnostics.proofs.RefusalKeepsRoom.{number_of_answer}
use Rattle.rows.proofs.PolicyNumbers.{reject_named}
use Rattle.rows.specs.Answers.{policy_of, bracket_answer, region_answer, total_answer, diagnosed_answer, bracket_for, region_for, total_for, grid_config, diagnosed_for, room_for}
use Rattle.theorems.proofs.LookupNumbers.{either, run_number, point_number_lem, Valued, region_from, variance_from}
use Rattle.std.specs.Prelude.{Result, Ok, Err}

-- ---- the policy handed in

module _ (policy : ShortExpiryPolicy) where
  -- a refusal's number: no great one, and 36 only where Reject is named
  abbrev Named : ℕ → Type 0
  Named n = (n ≤ 42) × (n ≡ 36 → policy ≡ Reject)

  low : (n : ℕ) → n ≤ 35 → Named n
  low n l = (omega (arith, l), λ e. absurd (omega (arith, l, e)))

  high : (n : ℕ) → 37 ≤ n → n ≤ 42 → Named n
  high n l h = (h, λ e. absurd (omega (arith, l, e)))

  valued : (n : ℕ) → Valued n → Named n
  valued n v = ⊎_elim (λ (l : n ≤ 31). low n (omega (arith, l))) (λ (p : (38 ≤ n) × (n ≤ 39)). let l = p.0 in let h = p.1 in high n (omega (arith, l)) (omega (arith, h))) v

  short_named : (p : ShortExpiryPolicy) → policy ≡ p → (n : ℕ) → short_of p ≡ Err n → Named n
  short_named Reject h n e = let z : 36 ≡ n = cc in (omega (arith, z), λ _. h)
  short_named ConstantVol h n e = let z : ◌≡◌ {A = ℕ} 0 1 = cc in absurd (omega arith)

  lookup_named : (taus tols : List Float) (m : ℕ) (tau : Float) (n : ℕ) → lookup_of taus tols m policy tau ≡ Err n → Named n
  unfolding lookup_of inside_of
  lookup_named taus tols m tau n =
      cond_ind To (ltb (node_of taus tols m tau) m)
      (λ e. let z : ◌≡◌ {A = ℕ} 0 1 = cc in absurd (omega arith))
      (cond_ind To (lt tau (at taus 0)) (short_named policy refl n)
      (cond_ind To (ltb (beyond_of taus m tau) m) (λ e. let z : ◌≡◌ {A = ℕ} 0 1 = cc in absurd (omega arith)) (λ e. let z : 37 ≡ n = cc in high n (omega (arith, z)) (omega (arith, z)))))
    where
      To : Result Bracket ℕ → Type 0
      To b = b ≡ Err n → Named n

  bracket_named : (taus tols : List Float) (m : ℕ) (k tau : Float) (n : ℕ) → bracket_of taus tols m policy k tau ≡ Err n → Named n
  unfolding bracket_of
  bracket_named taus tols m k tau n =
      cond_ind To (ltb 32 m) (λ e. let z : 11 ≡ n = cc in low n (omega (arith, z)))
      (λ e. ⊎_elim
      (λ (h : Err (point_number k tau) ≡ Err n). let z : point_number k tau ≡ n = cc in let l = point_number_lem k tau in low n (omega (arith, z, l)))
      (λ (h : lookup_of taus tols m policy tau ≡ Err n). lookup_named taus tols m tau n h)
      (either (point_number k tau) Err (lookup_of taus tols m policy tau) (Err n) e))
    where
      To : Result Bracket ℕ → Type 0
      To b = b ≡ Err n → Named n

  variance_named : (recs : List SviSlice) (taus tols : List Float) (m : ℕ) (k tau : Float) (n : ℕ) → variance_at recs taus tols m policy k tau ≡ Err n → Named n
  unfolding variance_at
  variance_named recs taus tols m k tau n e =
      ⊎_elim
      (λ (h : bracket_of taus tols m policy k tau ≡ Err n). bracket_named taus tols m k tau n h)
      (λ (v : Valued n). valued n v)
      (variance_from recs (bracket_of taus tols m policy k tau) k tau n e)

  -- ---- of a run

  module _ (run : Run) where
    run_named : (n : ℕ) → check_run run ≡ n → Named n
    run_named n z = let l = run_number run in low n (omega (arith, z, l))

    module _ (k tau : Float) where
      pub bracket_36 : bracket_run run policy k tau ≡ Err 36 → policy ≡ Reject
      unfolding bracket_run bracket_in
      bracket_36 e =
          ⊎_elim
          (λ (h : Err (check_run run) ≡ Err 36). let z : check_run run ≡ 36 = cc in (run_named 36 z).1 refl)
          (λ (h : bracket_in run policy k tau ≡ Err 36). (bracket_named (taus_of run.recs) (tols_of run) run.count k tau 36 h).1 refl)
          (either (check_run run) Err (bracket_in run policy k tau) (Err 36) e)

      pub region_36 : region_run run policy k tau ≡ Err 36 → policy ≡ Reject
      unfolding region_run bracket_in
      region_36 e =
          ⊎_elim
          (λ (h : Err (check_run run) ≡ Err 36). let z : check_run run ≡ 36 = cc in (run_named 36 z).1 refl)
          (λ (h : region_in run.recs (bracket_in run policy k tau) k ≡ Err 36). (bracket_named (taus_of run.recs) (tols_of run) run.count k tau 36 (region_from run.recs (bracket_in run policy k tau) k 36 h)).1 refl)
          (either (check_run run) Err (region_in run.recs (bracket_in run policy k tau) k) (Err 36) e)

      pub total_36 : total_run run policy k tau ≡ Err 36 → policy ≡ Reject
      unfolding total_run
      total_36 e =
          ⊎_elim
          (λ (h : Err (check_run run) ≡ Err 36). let z : check_run run ≡ 36 = cc in (run_named 36 z).1 refl)
          (λ (h : variance_at run.recs (taus_of run.recs) (tols_of run) run.count policy k tau ≡ Err 36). (variance_named run.recs (taus_of run.recs) (tols_of run) run.count k tau 36 h).1 refl)
          (either (check_run run) Err (variance_at run.recs (taus_of run.recs) (tols_of run) run.count policy k tau) (Err 36) e)

      -- ---- what `diagnose` sees at a point

      seen_from : (t : Result TotalVariance ℕ) (n : ℕ) → (t ≡ Err n → Named n) → seen_of t k ≡ Err n → Named n
      seen_from (Err m) n p e = let z : m ≡ n = cc in p (ap Err z)
      seen_from (Ok v) n p e =
          cond_ind (λ (s : Result Reading ℕ). s ≡ Err n → Named n) (finite (butterfly_of k v.w v.w_k v.w_kk))
          (λ e. let z : ◌≡◌ {A = ℕ} 0 1 = cc in absurd (omega arith))
          (λ e. let z : 30 ≡ n = cc in low n (omega (arith, z)))
          e

      seen_named : (n : ℕ) → seen_by run policy k tau ≡ Err n → Named n
      unfolding seen_on
      seen_named n e = seen_from (variance_at run.recs (taus_of run.recs) (tols_of run) run.count policy k tau) n (variance_named run.recs (taus_of run.recs) (tols_of run) run.count k tau n) e

-- ---- lists of threes, by what is said of each third

module _ (P : Float → Type 0) where
  abbrev Thirds : List Float → Type 0
  Thirds [] = Unit {0}
  Thirds (k ∷ []) = ⊥
  Thirds (k ∷ tau ∷ []) = ⊥
  Thirds (k ∷ tau ∷ x ∷ l) = P x × Thirds l

  thirds_append : (l r : List Float) → Thirds l → Thirds r → Thirds (l ++ r)
  thirds_append [] r p q = q
  thirds_append (k ∷ []) r p q = absurd p
  thirds_append (k ∷ tau ∷ []) r p q = absurd p
  thirds_append (k ∷ tau ∷ x ∷ l) r p q = (p.0, thirds_append l r p.1 q)

  thirds_each : (g : Float → List Float) → ((x : Float) → Thirds (g x)) → (xs : List Float) → Thirds (flat_map g xs)
  unfolding flat_map
  thirds_each g h [] = tt
  thirds_each g h (x ∷ xs) = thirds_append (g x) (flat_map g xs) (h x) (thirds_each g h xs)

  third_at : (l : List Float) (i : ℕ) → 3 * i + 2 < length l → Thirds l → P (at l (3 * i + 2))
  third_at [] i h p = absurd (omega (arith, h))
  third_at (k ∷ []) i h p = absurd p
  third_at (k ∷ tau ∷ []) i h p = absurd p
  third_at (k ∷ tau ∷ x ∷ l) zero h p = p.0
  third_at (k ∷ tau ∷ x ∷ l) (suc i) h p =
      let e : suc (suc (suc (3 * i + 2))) ≡ 3 * suc i + 2 = omega arith in
      subst (λ (j : ℕ). P (at (k ∷ tau ∷ x ∷ l) j)) e (third_at l i (omega (arith, h)) p.1)

-- a refusal's number is exact in a float

same_whole : (x : Float) (a b : ℕ) → HasValue x false a 1 → HasValue x false b 1 → a ≡ b
same_whole nan a b h g = absurd h
same_whole (inf s) a b h g = absurd h
same_whole (fin s m e) a b h g = eq_of_mul-eq-mul_right (down e) (down_pos e) a b (sym h.1 ∙ g.1)

num_same : (n m : ℕ) → n ≤ 42 → m ≤ 42 → num n ≡ num m → n ≡ m
num_same n m l h e = same_whole (num m) n m (subst (λ (x : Float). HasValue x false n 1) e (num_value n (le_trans l below))) (num_value m (le_trans h below))
  where
    below : 42 ≤ 2 ^ 53
    below = lit≤ tt

-- ---- the failures of `diagnose`

module _ (run : Run) (policy : ShortExpiryPolicy) (ks taus : List Float) (tol : DiagnosticsConfig) (room : List Float) where
  abbrev Third : Float → Type 0
  Third x = x ≡ num 36 → policy ≡ Reject

  failure_third : (k tau : Float) → Thirds Third (failure_of k tau (seen_by run policy k tau))
  failure_third k tau = go (seen_by run policy k tau) refl
    where
      go : (s : Result Reading ℕ) → seen_by run policy k tau ≡ s → Thirds Third (failure_of k tau s)
      go (Ok r) e = tt
      go (Err n) e = let h = seen_named policy run k tau n e in (λ z. h.1 (num_same n 36 h.0 (omega arith) z), tt)

  -- the number of failure i of a report, the third of its three in the room
  pub failure_36 : (d : SurfaceDiagnostics) → (diagnose_of run policy ks taus tol room).answer ≡ Ok d → (i : ℕ) → i < d.evaluation_failures → at (diagnose_of run policy ks taus tol room).room (3 * i + 2) ≡ num 36 → policy ≡ Reject
  failure_36 d done i l e =
      let all : List Float = failures_on (seen_by run policy) ks taus in
      let c : length all ≡ 3 * d.evaluation_failures = failures_counted run policy ks taus tol room d done in
      let h : 3 * i + 2 < length all = omega (arith, c, l) in
      third_at Third all i h (thirds_each Third _ (λ k. thirds_each Third _ (failure_third k) taus) ks)
      (sym (get_or-append all (drop (length all) room) nan (3 * i + 2) h) ∙ ap (λ (r : List Float). at r (3 * i + 2)) (sym (failures_in_order run policy ks taus tol room d done)) ∙ e)

  -- `diagnose` itself is refused with other numbers
  pub never_36 : (diagnose_of run policy ks taus tol room).answer ≡ Err 36 → ⊥
  unfolding diagnose_number surface_grid_number grid_number tolerance_number
  never_36 e = not_36 (sym (number_of_answer run policy ks taus tol room) ∙ ap diagnosed_number e)
    where
      No : ℕ → Type 0
      No n = n ≡ 36 → ⊥

      grid : No (surface_grid_number run ks taus)
      grid =
          cond_ind No (ltb 64 (length ks) || ltb 64 (length taus)) (λ e. omega (arith, e))
          (cond_ind No (eqb (check_run run) 0)
          (cond_ind No (rising_of ks) (cond_ind No (rising_of taus && all_positive taus) (λ e. omega (arith, e)) (λ e. omega (arith, e))) (λ e. omega (arith, e)))
          (λ e. let l = run_number run in omega (arith, e, l)))

      not_36 : No (diagnose_number run ks taus tol (length room))
      not_36 =
          cond_ind No (ltb (length room) (3 * (length ks * length taus))) (λ e. omega (arith, e))
          (cond_ind No (eqb (surface_grid_number run ks taus) 0)
          (cond_ind No (tolerable tol.butterfly_tolerance && tolerable tol.calendar_tolerance) (λ e. omega (arith, e)) (λ e. omega (arith, e)))
          grid)

-- ---- at the boundary to C, where a policy is a number

module _ (run : Run) (p : ℕ) where
  module _ (k tau : Float) where
    pub port_bracket_36 : (bracket_for run p k tau).number ≡ 36 → p ≡ 0
    unfolding bracket_for
    port_bracket_36 e = reject_named p (bracket_36 (policy_of p) run k tau (back (bracket_run run (policy_of p) k tau) e))
      where
        back : (b : Result Bracket ℕ) → (bracket_answer b).number ≡ 36 → b ≡ Err 36
        back (Ok b) e = absurd (omega (arith, e))
        back (Err n) e = ap Err e

    pub port_region_36 : (region_for run p k tau).number ≡ 36 → p ≡ 0
    unfolding region_for
    port_region_36 e = reject_named p (region_36 (policy_of p) run k tau (back (region_run run (policy_of p) k tau) e))
      where
        back : (r : Result Region ℕ) → (region_answer r).number ≡ 36 → r ≡ Err 36
        back (Ok r) e = absurd (omega (arith, e))
        back (Err n) e = ap Err e

    pub port_total_36 : (total_for run p k tau).number ≡ 36 → p ≡ 0
    unfolding total_for
    port_total_36 e = reject_named p (total_36 (policy_of p) run k tau (back (total_run run (policy_of p) k tau) e))
      where
        back : (t : Result TotalVariance ℕ) → (total_answer t).number ≡ 36 → t ≡ Err 36
        back (Ok v) e = absurd (omega (arith, e))
        back (Err n) e = ap Err e

  module _ (ks taus : List Float) (butterfly calendar : Float) (room : List Float) where
    pub port_failure_36 : (i : ℕ) → i < (diagnosed_for run p ks taus butterfly calendar room).value.evaluation_failures → at (room_for run p ks taus butterfly calendar room) (3 * i + 2) ≡ num 36 → p ≡ 0
    unfolding diagnosed_for room_for
    port_failure_36 i l e = reject_named p (go (diagnose_of run (policy_of p) ks taus (grid_config butterfly calendar) room).answer refl l)
      where
        go : (a : Result SurfaceDiagnostics ℕ) → (diagnose_of run (policy_of p) ks taus (grid_config butterfly calendar) room).answer ≡ a → i < (diagnosed_answer a).value.evaluation_failures → policy_of p ≡ Reject
        go (Ok d) done l = failure_36 run (policy_of p) ks taus (grid_config butterfly calendar) room d done i l e
        go (Err n) done l = absurd (omega (arith, l))

    pub port_never_36 : (diagnosed_for run p ks taus butterfly calendar room).number ≡ 36 → ⊥
    unfolding diagnosed_for
    port_never_36 e = never_36 run (policy_of p) ks taus (grid_config butterfly calendar) room (back (diagnose_of run (policy_of p) ks taus (grid_config butterfly calendar) room).answer e)
      where
        back : (a : Result SurfaceDiagnostics ℕ) → (diagnosed_answer a).number ≡ 36 → a ≡ Err 36
        back (Ok d) e = absurd (omega (arith, e))
        back (Err n) e = ap Err e
