-- 36: on a valid surface, at a point that passes 34 and 35, `bracket`, `region` and `total_variance` refuse with 36 exactly where Reject is named and tau is before the first node and not within its tolerance.
-- A tau before the first node is within no later node's tolerance, which is at most a quarter of the gap to the node before. Assumes nothing.
use mathlib.Core.Path.{◌≡◌, refl, sym, ap, subst, ◌∙◌}
use mathlib.Core.Bool.{Bool, true, false, not, ◌||◌, cond}
use mathlib.Core.List.{List}
use mathlib.Core.Logic.{◌↔◌}
use Prim.Native.Nat.{ℕ, zero, suc, ◌+◌, ◌-◌, ◌≤◌, ◌<◌}
use native.Mathlib.Omega.{arith}
use lib.Dec.{T, eqb, ltb}
use lib.Ieee.{Float, nan, inf, fin, lt, le, ne, is_nan}
use borrow.Author.Tests.{le-ltb, ltb-false, eqb-true}
use Rattle.laws.specs.Floats.{◌-f◌, ◌*f◌, quarter, at, min_of}
use Rattle.laws.proofs.Choices.{cond_ind, cond_test, if_true, if_false}
use Rattle.laws.proofs.Floats.{nan_test}
use Rattle.laws.proofs.Order.{lt_le_trans, lt→le}
use Rattle.point.specs.Point.{point_number}
use Rattle.surface.specs.declared.types.Run.{Run}
use Rattle.surface.specs.declared.types.ShortExpiryPolicy.{ShortExpiryPolicy}
use Rattle.surface.specs.declared.types.ShortExpiryPolicy.TheVariants.{Reject}
use Rattle.surface.specs.declared.types.Bracket.{Bracket}
use Rattle.surface.specs.Runs.{taus_of, check_run}
use Rattle.surface.specs.Lookup.{node_tolerance, before_of, after_of, tolerance_of, near_of, near_at, node_of, beyond_of, on_node, short_of, inside_of, lookup_of}
use Rattle.surface.specs.Surface.{tols_of, bracket_run, region_run, total_run}
use Rattle.surface.specs.Last.{TausFit}
use Rattle.surface.specs.First.{first_tolerance, BeforeFirst}
use Rattle.theorems.proofs.LookupNumbers.{not_valued}
use Rattle.theorems.proofs.OnValidRun as on
use Rattle.theorems.proofs.OnValidRun.{search_none, none_found, min_le}
use Rattle.theorems.proofs.RejectNamed.{bracket_36}
use Rattle.theorems.proofs.Spans.{from_true}
use Rattle.theorems.proofs.ValidRun.{Valid, valid_run}
use Rattle.std.specs.Prelude.{Result, Ok, Err}

-- ---- 36 comes from the second test alone

inside_no : (taus : List Float) (n : ℕ) (tau : Float) (h : ℕ) → inside_of taus n tau h ≡ Err 36 → ⊥
unfolding inside_of
inside_no taus n tau h e = cond_ind (λ (b : Result Bracket ℕ). b ≡ Err 36 → ⊥) (ltb h n) (λ e. let z : ◌≡◌ {A = ℕ} 0 1 = cc in omega arith) (λ e. let z : ◌≡◌ {A = ℕ} 36 37 = cc in omega (arith, z)) e

short_found : (a b : Bool) (j : ℕ) (policy : ShortExpiryPolicy) (rest : Result Bracket ℕ) → (rest ≡ Err 36 → ⊥) → cond {A = Result Bracket ℕ} a (Ok (on_node j)) (cond b (short_of policy) rest) ≡ Err 36 → (a ≡ false) × (b ≡ true)
short_found true b j policy rest never e = let z : ◌≡◌ {A = ℕ} 0 1 = cc in absurd (omega arith)
short_found false true j policy rest never e = (refl, refl)
short_found false false j policy rest never e = absurd (never e)

-- ---- the lesser of two is at most what the first is at most

real_of : (a b : Float) → T (le a b) → T (not (is_nan a))
unfolding is_nan le
real_of nan b h = absurd h
real_of (inf s) b h = tt
real_of (fin s m e) b h = tt

min_under : (a q b : Float) → T (le a b) → T (le (min_of a q) b)
unfolding min_of
min_under a q b h = go (lt q a) (ne a a) refl refl
  where
    go : (s t : Bool) → lt q a ≡ s → ne a a ≡ t → T (le (cond (s || t) q a) b)
    go true t e f = lt→le q b (lt_le_trans q a b (from_true e) h)
    go false true e f = absurd (subst (λ (b : Bool). T (not b)) (sym (nan_test a) ∙ f) (real_of a b h))
    go false false e f = h

-- ---- one valid run, one good point

module _ (run : Run) (valid : check_run run ≡ 0) (k tau : Float) (point : point_number k tau ≡ 0) where
  v : Valid run
  v = valid_run run valid

  abbrev n : ℕ
  n = run.count

  abbrev taus : List Float
  taus = taus_of run.recs

  some : 0 < n
  some = let two = v.two in omega (arith, two)

  -- ---- before the first node no node is near

  module _ (fit : TausFit run) (far : BeforeFirst run tau) where
    under_first : lt tau (at taus 0) ≡ true
    under_first = subst (λ (x : Float). lt tau x ≡ true) (sym (v.tau_at 0 some)) far.less

    each_above : (i : ℕ) → i < n → T (lt tau (at taus i))
    each_above zero l = from_true under_first
    each_above (suc i) l =
        let e : i + 1 ≡ suc i = omega arith in
        let m : i + 1 < n = omega (arith, l) in
        lt_le_trans tau (at taus i) (at taus (suc i)) (each_above i (omega (arith, l))) (lt→le _ _ (from_true (subst (λ (j : ℕ). lt (at taus i) (at taus j) ≡ true) e (v.rises i m))))

    module _ (i : ℕ) (l : i + 1 < n) where
      tolerance_small : T (le (at (tols_of run) (i + 1)) (on.quarter_gap run valid k tau point fit i l))
      unfolding tolerance_of after_of before_of
      tolerance_small =
          let q = on.quarter_gap run valid k tau point fit i l in
          let e : i + 1 - 1 ≡ i = omega arith in
          let before : T (le (before_of taus (i + 1) (node_tolerance *f at taus (i + 1))) q) =
          cond_test (λ (t : Float). T (le t q)) (eqb (i + 1) 0)
          (λ z. let a = eqb-true (i + 1) 0 z in absurd (omega (arith, a)))
          (λ z. subst (λ (j : ℕ). T (le (min_of (node_tolerance *f at taus (i + 1)) (quarter *f (at taus (i + 1) -f at taus j))) q)) (sym e) (min_le _ q (on.quarter_real run valid k tau point fit i l))) in
          subst (λ (t : Float). T (le t q)) (sym (v.tol_at (i + 1) l))
          (cond_ind (λ (t : Float). T (le t q)) (ltb (i + 1 + 1) n) (min_under _ _ q before) before)

      not_near_later : near_at taus (tols_of run) tau (i + 1) ≡ false
      not_near_later = on.far_below run valid k tau point fit i l (lt→le _ _ (each_above i (omega (arith, l)))) (at (tols_of run) (i + 1)) tolerance_small

    not_near : (i : ℕ) → i < n → near_at taus (tols_of run) tau i ≡ false
    not_near zero l = subst (λ (x : Float). near_of x tau (first_tolerance run) ≡ false) (sym (v.tau_at 0 some)) far.not_on_it
    not_near (suc i) l = subst (λ (j : ℕ). near_at taus (tols_of run) tau j ≡ false) (let e : i + 1 ≡ suc i = omega arith in e) (not_near_later i (omega (arith, l)))

  module _ (policy : ShortExpiryPolicy) where
    is : bracket_run run policy k tau ≡ lookup_of taus (tols_of run) n policy tau
    is = on.lookup_is run valid k tau point policy

    -- ---- 36 only there

    refused : lookup_of taus (tols_of run) n policy tau ≡ Err 36 → BeforeFirst run tau
    unfolding lookup_of node_of
    refused e =
        let a = short_found (ltb (node_of taus (tols_of run) n tau) n) (lt tau (at taus 0)) (node_of taus (tols_of run) n tau) policy (inside_of taus n tau (beyond_of taus n tau)) (inside_no taus n tau (beyond_of taus n tau)) e in
        let first = some in
        let far : near_at taus (tols_of run) tau 0 ≡ false =
        none_found (near_at taus (tols_of run) tau) (n - 0) 0 (let l = ltb-false (node_of taus (tols_of run) n tau) n a.0 in let z : 0 + (n - 0) ≤ node_of taus (tols_of run) n tau = omega (arith, l) in z) 0 (omega arith) (omega (arith, first)) in
        record {
          less = subst (λ (x : Float). lt tau x ≡ true) (v.tau_at 0 some) a.1;
          not_on_it = subst (λ (x : Float). near_of x tau (first_tolerance run) ≡ false) (v.tau_at 0 some) far;
        }

    -- ---- and there always, under Reject

    refuses : TausFit run → (policy ≡ Reject) × BeforeFirst run tau → lookup_of taus (tols_of run) n policy tau ≡ Err 36
    unfolding lookup_of node_of
    refuses fit (named, far) =
        let none : node_of taus (tols_of run) n tau ≡ n = search_none (near_at taus (tols_of run) tau) (n - 0) 0 (λ j l m. not_near fit far j (omega (arith, m))) ∙ (let z : 0 + (n - 0) ≡ n = omega arith in z) in
        sym (if_false _ (le-ltb _ n (let z : n ≤ node_of taus (tols_of run) n tau = omega (arith, none) in z))
        (if_true _ (under_first fit far) (sym (ap short_of named))))

    -- 36 of `bracket`
    pub bracket_36_where : TausFit run → (bracket_run run policy k tau ≡ Err 36) ↔ ((policy ≡ Reject) × BeforeFirst run tau)
    bracket_36_where fit = (λ e. (bracket_36 policy run k tau e, refused (sym is ∙ e)), λ far. is ∙ refuses fit far)

    -- 36 of `region`
    pub region_36_where : TausFit run → (region_run run policy k tau ≡ Err 36) ↔ ((policy ≡ Reject) × BeforeFirst run tau)
    region_36_where fit = let h = on.region_as_bracket run valid k tau point policy 36 in (λ e. (bracket_36_where fit).0 (h.0 e), λ far. h.1 ((bracket_36_where fit).1 far))

    -- 36 of `total_variance`
    pub total_36_where : TausFit run → (total_run run policy k tau ≡ Err 36) ↔ ((policy ≡ Reject) × BeforeFirst run tau)
    total_36_where fit = let h = on.total_as_bracket run valid k tau point policy 36 (not_valued 36 (omega arith) (omega arith)) in (λ e. (bracket_36_where fit).0 (h.0 e), λ far. h.1 ((bracket_36_where fit).1 far))
