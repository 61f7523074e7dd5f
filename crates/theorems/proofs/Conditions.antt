-- The tests of refusals 6, 8 and 9 and their conditions: where the test fails the condition holds, and where it passes the condition does not. Assumes nothing.
use mathlib.Core.Path.{◌≡◌, refl, sym, ap, ◌∙◌}
use mathlib.Core.Bool.{Bool, true, false, ◌&&◌}
use mathlib.Core.List.{List}
use Prim.Native.Nat.{ℕ, zero, suc, ◌+◌, ◌-◌}
use native.Mathlib.Omega.{arith}
use lib.Dec.{T, eqb}
use lib.ListN.{length}
use lib.Ieee.{Float, le}
use lib.Ieee.Bits.{is_true}
use borrow.Author.Tests.{eqb-true, eqb-false}
use Rattle.moves.specs.Moves.{is_refused}
use Rattle.laws.specs.Loop.{turns, for}
use Rattle.laws.specs.Floats.{◌+f◌, ◌*f◌, f64, +0, at, finite}
use Rattle.laws.proofs.Choices.{both, split, off, false_true}
use Rattle.laws.proofs.Somes.{some_fails, none_fails}
use Rattle.slice.specs.declared.SviSlice.{SviSlice}
use Rattle.slice.specs.declared.Values.{Values}
use Rattle.std.specs.Prelude.{Result, Ok, Err, is_some}
use Rattle.slice.specs.Slice.{number_of, eval_raw}
use Rattle.moves.specs.declared.Plan.{Plan}
use Rattle.search.specs.Search.{CellFn, after_passes, limit_of}
use Rattle.search.specs.Run.{fit_cell}
use Rattle.search.proofs.Passes.{pass_stands}
use Rattle.theorems.proofs.Least.{refusal, yields}
use Rattle.records.specs.declared.FitConfig.{FitConfig}
use Rattle.judge.specs.declared.Sums.{Sums}
use Rattle.records.specs.Settings.{settings_hold}
use Rattle.judge.specs.Judge.{reading_of, residual_at, added_to, sums_of, params_hold, rmse_holds}
use Rattle.calibrate.specs.Fit.{plan_of, limits_for, plan_for, fit_search}
use Rattle.calibrate.specs.When.{FacelessPass}
use Rattle.judge.specs.When.{OutOfDomain, RmseAboveMax, rmse_at}
use Rattle.entry.proofs.Conditions.{below, not_both, max_finite}
use Rattle.judge.specs.When as judge

-- ---- 6

module _ (c : FitConfig) (ks ws weights : List Float) where
  abbrev cells : CellFn
  cells = fit_cell ks ws weights (limits_for c ws)

  abbrev plan : Plan
  plan = plan_for c ks

  none_there : (b : Bool) → (T b → ⊥) → b ≡ false
  none_there true h = absurd (h tt)
  none_there false h = refl

  pub search_fails : is_refused (fit_search c ks ws weights) ≡ true → FacelessPass c ks ws weights
  unfolding fit_search plan_of
  search_fails h =
      let r = refusal cells plan (limit_of plan) h in
      (r.pass, omega (arith, r.last), λ i j l m. none_there _ (r.none i l j m))

  pub search_refutes : is_refused (fit_search c ks ws weights) ≡ false → FacelessPass c ks ws weights → ⊥
  unfolding fit_search plan_of
  search_refutes h s =
      let w = (after_passes cells plan s.0).window in
      let t = (yields cells plan (limit_of plan) h).each s.0 s.1 in
      let z = pass_stands cells w c.grid t in
      off (s.2 _ _ z.row z.column) (sym (ap (λ x. x.some) z.is) ∙ is_true _ t)

-- ---- 8

-- a reading that is not good is a refusal of `eval`
no_reading : (e : Result Values ℕ) → is_some (reading_of e) ≡ false → (n : ℕ) × (e ≡ Err n)
no_reading (Ok v) h = false_true (sym h)
no_reading (Err n) h = (n, refl)

refused_reading : (e : Result Values ℕ) (n : ℕ) → e ≡ Err n → is_some (reading_of e) ≡ false
refused_reading e n h = ap (λ (e : Result Values ℕ). is_some (reading_of e)) h

module _ (s : SviSlice) (ks ws weights : List Float) where
  abbrev reads : ℕ → Bool
  reads i = is_some (reading_of (eval_raw s (at ks i)))

  abbrev zeros : Sums
  zeros = record { ok = true; squares = +0; params = +0; weight = +0 }

  step : ℕ → Sums → Sums
  step i t = added_to t (residual_at s (at ks i) (at ws i)) (at ws i) (at weights i)

  -- the sums are good where every reading is
  along : (k i : ℕ) (t : Sums) (b : Bool) → t.ok ≡ b → (turns step k i t).ok ≡ turns (λ i b. b && reads i) k i b
  unfolding turns step added_to residual_at
  along zero i t b e = e
  along (suc k) i t b e = along k (i + 1) (step i t) (b && reads i) (ap (λ (b : Bool). b && reads i) e)

  sums_ok : (sums_of s ks ws weights).ok ≡ for 0 (length ks) (λ i b. b && reads i) true
  unfolding sums_of step
  sums_ok = along (length ks - 0) 0 zeros true refl

module _ (c : FitConfig) (s : SviSlice) (ks ws weights : List Float) (a_max objective : Float) where
  abbrev bound : Float
  bound = objective +f (f64 0x3e11_2e0b_e826_d695 *f objective +f c.feasibility_tolerance *f judge.total_weight s ks ws weights *f a_max *f a_max)

  pub slice_fails : eqb (number_of s) 0 ≡ false → OutOfDomain c s ks ws weights a_max objective
  slice_fails h = judge.bad_slice (eqb-false _ _ h)

  pub params_fail : params_hold c a_max objective (sums_of s ks ws weights) ≡ false → OutOfDomain c s ks ws weights a_max objective
  unfolding params_hold
  params_fail h =
      split ((sums_of s ks ws weights).ok && finite (judge.params_of s ks ws weights)) (le (judge.params_of s ks ws weights) bound) h
      (λ h. split (sums_of s ks ws weights).ok (finite (judge.params_of s ks ws weights)) h
      (λ e. let t = some_fails (reads s ks ws weights) (length ks) (sym (sums_ok s ks ws weights) ∙ e) in let r = no_reading _ t.2 in judge.no_value t.0 r.0 t.1 r.1)
      judge.params_not_finite)
      judge.params_above

  pub domain_refutes : eqb (number_of s) 0 ≡ true → params_hold c a_max objective (sums_of s ks ws weights) ≡ true → OutOfDomain c s ks ws weights a_max objective → ⊥
  unfolding params_hold
  domain_refutes g h =
      let p = both ((sums_of s ks ws weights).ok && finite (judge.params_of s ks ws weights)) (le (judge.params_of s ks ws weights) bound) h in
      let q = both (sums_of s ks ws weights).ok (finite (judge.params_of s ks ws weights)) p.0 in
      elim [
        | judge.bad_slice f ↦ f (eqb-true _ _ g)
        | judge.no_value i n l e ↦ off (refused_reading _ n e) (none_fails (reads s ks ws weights) (length ks) (sym (sums_ok s ks ws weights) ∙ q.0) i l)
        | judge.params_not_finite e ↦ off e q.1
        | judge.params_above e ↦ off e p.1
      ]

-- ---- 9

module _ (c : FitConfig) (s : SviSlice) (ks ws weights : List Float) where
  abbrev r : Float
  r = rmse_at s ks ws weights

  pub rmse_fails : settings_hold c ≡ true → rmse_holds c r ≡ false → RmseAboveMax c s ks ws weights
  unfolding rmse_holds
  rmse_fails g h = go (finite r) refl h
    where
      go : (x : Bool) → finite r ≡ x → (x && le r c.max_rmse_vol) ≡ false → RmseAboveMax c s ks ws weights
      go true e h = judge.rmse_above (below c.max_rmse_vol r (max_finite c g) e h)
      go false e h = judge.rmse_not_finite e

  pub rmse_refutes : rmse_holds c r ≡ true → RmseAboveMax c s ks ws weights → ⊥
  unfolding rmse_holds
  rmse_refutes h =
      let p = both (finite r) (le r c.max_rmse_vol) h in
      elim [
        | judge.rmse_not_finite e ↦ off e p.0
        | judge.rmse_above e ↦ not_both c.max_rmse_vol r p.1 e
      ]
