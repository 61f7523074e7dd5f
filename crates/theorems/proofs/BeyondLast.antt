-- 37: on a valid surface, at a point that passes 34 and 35, `bracket`, `region` and `total_variance` refuse with 37 exactly where tau is beyond the last node and not within its tolerance, whatever the policy.
-- A tau beyond the last node is within no earlier node's tolerance, which is at most a quarter of the gap to the next node. Assumes nothing.
use mathlib.Core.Path.{◌≡◌, refl, sym, ap, subst, ◌∙◌}
use mathlib.Core.Bool.{Bool, true, false, ◌||◌, cond}
use mathlib.Core.List.{List}
use mathlib.Core.Logic.{◌↔◌, ⊎_elim}
use Prim.Native.Nat.{ℕ, zero, suc, ◌+◌, ◌-◌, ◌*◌, ◌≤◌, ◌<◌}
use native.Mathlib.Nat.{eq-or-lt_of_le}
use native.Mathlib.Omega.{arith}
use lib.Dec.{T, eqb, ltb}
use lib.IntN.{negsuc}
use lib.Ieee.{Float, nan, inf, fin, binary64, unlike, neg, mul, sub, lt, le, ne, of_bits}
use lib.Ieee.Positive.{num, den, positive, den_pos, own_value, le→cross}
use borrow.Author.Tests.{le-ltb, ltb-true, ltb-false}
use Rattle.laws.specs.Floats.{◌-f◌, ◌*f◌, quarter, at, min_of}
use Rattle.laws.proofs.Choices.{cond_ind, cond_test, if_false}
use Rattle.laws.proofs.Ops.{apply, neg_value, mul_value, add_value}
use Rattle.laws.proofs.Order.{lt_le_trans, lt_not_self, lt→le}
use Rattle.laws.proofs.Signs.{Signed, round_signed, mul_signed}
use Rattle.point.specs.Point.{point_number}
use Rattle.surface.specs.declared.types.Run.{Run}
use Rattle.surface.specs.declared.types.ShortExpiryPolicy.{ShortExpiryPolicy}
use Rattle.surface.specs.declared.types.ShortExpiryPolicy.TheVariants.{Reject, ConstantVol}
use Rattle.surface.specs.declared.types.Bracket.{Bracket}
use Rattle.surface.specs.declared.types.Bracket.TheVariants.{Segment}
use Rattle.surface.specs.Runs.{taus_of, check_run}
use Rattle.surface.specs.Lookup.{node_tolerance, before_of, after_of, tolerance_of, near_of, near_at, node_of, beyond_at, beyond_of, on_node, short_of, inside_of, lookup_of}
use Rattle.surface.specs.Surface.{tols_of, bracket_run, region_run, total_run}
use Rattle.surface.specs.Last.{last_tolerance, BeyondLast, TausFit}
use Rattle.theorems.proofs.LookupNumbers.{not_valued}
use Rattle.theorems.proofs.OnValidRun as on
use Rattle.theorems.proofs.OnValidRun.{search_none, none_found, min_le}
use Rattle.theorems.proofs.Spans.{from_true, to_false, positive_no_nan, not_below, within_any}
use Rattle.theorems.proofs.ValidRun.{Valid, valid_run}
use Rattle.std.specs.Prelude.{Result, Ok, Err}

-- ---- what is no 37

short_no : (policy : ShortExpiryPolicy) → short_of policy ≡ Err 37 → ⊥
short_no Reject e = let z : ◌≡◌ {A = ℕ} 36 37 = cc in omega (arith, z)
short_no ConstantVol e = let z : ◌≡◌ {A = ℕ} 0 1 = cc in omega arith

found_none : (a b : Bool) (j : ℕ) (policy : ShortExpiryPolicy) (rest : Result Bracket ℕ) → cond {A = Result Bracket ℕ} a (Ok (on_node j)) (cond b (short_of policy) rest) ≡ Err 37 → (a ≡ false) × (rest ≡ Err 37)
found_none true b j policy rest e = let z : ◌≡◌ {A = ℕ} 0 1 = cc in absurd (omega arith)
found_none false true j policy rest e = absurd (short_no policy e)
found_none false false j policy rest e = (refl, e)

none_beyond : (b : Bool) (lo hi : ℕ) (x : Float) → cond {A = Result Bracket ℕ} b (Ok (Segment lo hi x)) (Err 37) ≡ Err 37 → b ≡ false
none_beyond true lo hi x e = let z : ◌≡◌ {A = ℕ} 0 1 = cc in absurd (omega arith)
none_beyond false lo hi x e = refl

-- ---- tolerances

min_signed : (a q : Float) → Signed false a → Signed false q → Signed false (min_of a q)
unfolding min_of
min_signed a q h k = cond_ind (Signed false) (lt q a || ne a a) k h

tolerance_positive : T (positive node_tolerance)
unfolding of_bits
tolerance_positive = tt

product_signed : (x y : Float) → T (positive x) → T (positive y) → Signed false (x *f y)
product_signed x y p q = subst (Signed false) (sym (mul_value x y false false (num x) (den x) (num y) (den y) (den_pos x) (den_pos y) (own_value x p) (own_value y q))) (round_signed binary64 false _ _)

quarter_of : (g : Float) → Signed false g → Signed false (quarter *f g)
unfolding mul of_bits
quarter_of nan h = absurd h
quarter_of (inf t) h = ap (unlike false) h
quarter_of (fin t m e) h = subst (λ (b : Bool). Signed b (quarter *f fin t m e)) (ap (unlike false) h) (mul_signed false 1 (negsuc 1) t m e)

gap_signed : (x y : Float) → T (positive x) → T (positive y) → T (le x y) → Signed false (y -f x)
unfolding sub
gap_signed x y p q h = subst (Signed false) (sym (add_value y (neg x) true (num y) (den y) (num x) (den x) (den_pos y) (den_pos x) (own_value y q) (neg_value x (num x) (den x) (own_value x p)) (le→cross x y p q h))) (round_signed binary64 false (apply true (num y * den x) (num x * den y)) (den y * den x))

-- ---- one valid run, one good point

module _ (run : Run) (valid : check_run run ≡ 0) (k tau : Float) (point : point_number k tau ≡ 0) where
  v : Valid run
  v = valid_run run valid

  abbrev n : ℕ
  n = run.count

  abbrev taus : List Float
  taus = taus_of run.recs

  tau_above : T (positive tau)
  tau_above = on.tau_above run valid k tau point

  node_above : (i : ℕ) → i < n → T (positive (at taus i))
  node_above i l = on.node_above run valid k tau point i l

  within : n - 1 < n
  within = let two = v.two in omega (arith, two)

  -- the node before the last is below it
  step : T (le (at taus (n - 1 - 1)) (at taus (n - 1)))
  step =
      let two = v.two in
      let e : n - 1 - 1 + 1 ≡ n - 1 = omega (arith, two) in
      lt→le _ _ (from_true (subst (λ (j : ℕ). lt (at taus (n - 1 - 1)) (at taus j) ≡ true) e (v.rises (n - 1 - 1) (omega (arith, two)))))

  last_signed : Signed false (at (tols_of run) (n - 1))
  unfolding tolerance_of after_of before_of
  last_signed =
      let two = v.two in
      let share = product_signed node_tolerance (at taus (n - 1)) tolerance_positive (node_above (n - 1) within) in
      let gap = quarter_of _ (gap_signed (at taus (n - 1 - 1)) (at taus (n - 1)) (node_above (n - 1 - 1) (omega (arith, two))) (node_above (n - 1) within) step) in
      subst (Signed false) (sym (v.tol_at (n - 1) within))
      (cond_test (Signed false) (ltb (n - 1 + 1) n)
      (λ e. let l = ltb-true (n - 1 + 1) n e in absurd (omega (arith, l, two)))
      (λ e. cond_ind (Signed false) (eqb (n - 1) 0) share (min_signed _ _ share gap)))

  -- a tau that is not below the last node, and not within its tolerance, is greater
  above : near_at taus (tols_of run) tau (n - 1) ≡ false → lt tau (at taus (n - 1)) ≡ false → lt (at taus (n - 1)) tau ≡ true
  above far past = go (lt (at taus (n - 1)) tau) refl
    where
      go : (b : Bool) → lt (at taus (n - 1)) tau ≡ b → b ≡ true
      go true e = refl
      go false e =
          let last = node_above (n - 1) within in
          let low = not_below (at taus (n - 1)) tau (positive_no_nan _ last) (positive_no_nan _ tau_above) past in
          let high = not_below tau (at taus (n - 1)) (positive_no_nan _ tau_above) (positive_no_nan _ last) e in
          absurd (subst T far (within_any (at taus (n - 1)) tau last tau_above low high (at (tols_of run) (n - 1)) last_signed))

  -- ---- beyond the last node every node is passed, and none is near

  module _ (fit : TausFit run) (far : BeyondLast run tau) where
    beyond_last : T (lt (at taus (n - 1)) tau)
    beyond_last = from_true (subst (λ (x : Float). lt x tau ≡ true) (sym (v.tau_at (n - 1) within)) far.greater)

    below : (d i : ℕ) → i + d + 1 ≡ n → T (lt (at taus i) tau)
    below zero i e = subst (λ (j : ℕ). T (lt (at taus j) tau)) (let z : n - 1 ≡ i = omega (arith, e) in z) beyond_last
    below (suc d) i e = lt_le_trans (at taus i) (at taus (i + 1)) tau (from_true (v.rises i (omega (arith, e)))) (lt→le _ _ (below d (i + 1) (omega (arith, e))))

    each_below : (i : ℕ) → i < n → T (lt (at taus i) tau)
    each_below i l = below (n - 1 - i) i (omega (arith, l))

    passed : (i : ℕ) → i < n → lt tau (at taus i) ≡ false
    passed i l = to_false _ (λ h. lt_not_self tau (lt_le_trans tau (at taus i) tau h (lt→le _ _ (each_below i l))))

    module _ (i : ℕ) (l : i + 1 < n) where
      tolerance_small : T (le (at (tols_of run) i) (on.quarter_gap run valid k tau point fit i l))
      unfolding tolerance_of after_of
      tolerance_small =
          let q = on.quarter_gap run valid k tau point fit i l in
          subst (λ (t : Float). T (le t q)) (sym (v.tol_at i (omega (arith, l))))
          (cond_test (λ (t : Float). T (le t q)) (ltb (i + 1) n)
          (λ e. min_le _ q (on.quarter_real run valid k tau point fit i l))
          (λ e. let m = ltb-false (i + 1) n e in absurd (omega (arith, l, m))))

      not_near_earlier : near_at taus (tols_of run) tau i ≡ false
      not_near_earlier = on.far_above run valid k tau point fit i l (lt→le _ _ (each_below (i + 1) l)) (at (tols_of run) i) tolerance_small

    not_near : (i : ℕ) → i < n → near_at taus (tols_of run) tau i ≡ false
    not_near i l =
        ⊎_elim
        (λ (e : i + 1 ≡ n). subst (λ (j : ℕ). near_at taus (tols_of run) tau j ≡ false) (let z : n - 1 ≡ i = omega (arith, e) in z) (subst (λ (x : Float). near_of x tau (last_tolerance run) ≡ false) (sym (v.tau_at (n - 1) within)) far.not_on_it))
        (λ (m : i + 1 < n). not_near_earlier i m)
        (eq-or-lt_of_le (let z : i + 1 ≤ n = omega (arith, l) in z))

  module _ (policy : ShortExpiryPolicy) where
    -- ---- 37 only there

    refused : lookup_of taus (tols_of run) n policy tau ≡ Err 37 → BeyondLast run tau
    unfolding lookup_of node_of beyond_of inside_of
    refused e =
        let two = v.two in
        let a = found_none (ltb (node_of taus (tols_of run) n tau) n) (lt tau (at taus 0)) (node_of taus (tols_of run) n tau) policy (inside_of taus n tau (beyond_of taus n tau)) e in
        let b = none_beyond (ltb (beyond_of taus n tau) n) _ _ _ a.1 in
        let far : near_at taus (tols_of run) tau (n - 1) ≡ false =
        none_found (near_at taus (tols_of run) tau) (n - 0) 0 (let l = ltb-false (node_of taus (tols_of run) n tau) n a.0 in let z : 0 + (n - 0) ≤ node_of taus (tols_of run) n tau = omega (arith, l) in z) (n - 1) (omega arith) (omega (arith, two)) in
        let past : lt tau (at taus (n - 1)) ≡ false =
        none_found (beyond_at taus tau) (n - 1) 1 (let l = ltb-false (beyond_of taus n tau) n b in let z : 1 + (n - 1) ≤ beyond_of taus n tau = omega (arith, l, two) in z) (n - 1) (omega (arith, two)) (omega (arith, two)) in
        record {
          greater = subst (λ (x : Float). lt x tau ≡ true) (v.tau_at (n - 1) within) (above far past);
          not_on_it = subst (λ (x : Float). near_of x tau (last_tolerance run) ≡ false) (v.tau_at (n - 1) within) far;
        }

    -- ---- and there always

    refuses : TausFit run → BeyondLast run tau → lookup_of taus (tols_of run) n policy tau ≡ Err 37
    unfolding lookup_of node_of beyond_of inside_of
    refuses fit far =
        let two = v.two in
        let none : node_of taus (tols_of run) n tau ≡ n = search_none (near_at taus (tols_of run) tau) (n - 0) 0 (λ j l m. not_near fit far j (omega (arith, m))) ∙ (let z : 0 + (n - 0) ≡ n = omega arith in z) in
        let past : beyond_of taus n tau ≡ n = search_none (beyond_at taus tau) (n - 1) 1 (λ j l m. passed fit far j (omega (arith, m, two))) ∙ (let z : 1 + (n - 1) ≡ n = omega (arith, two) in z) in
        sym (if_false _ (le-ltb _ n (let z : n ≤ node_of taus (tols_of run) n tau = omega (arith, none) in z))
        (if_false _ (passed fit far 0 (omega (arith, two)))
        (if_false _ (le-ltb _ n (let z : n ≤ beyond_of taus n tau = omega (arith, past) in z)) refl)))

    -- 37 of `bracket`
    pub bracket_37 : TausFit run → (bracket_run run policy k tau ≡ Err 37) ↔ BeyondLast run tau
    bracket_37 fit = (λ e. refused (sym is ∙ e), λ far. is ∙ refuses fit far)
      where
        is : bracket_run run policy k tau ≡ lookup_of taus (tols_of run) n policy tau
        is = on.lookup_is run valid k tau point policy

    -- ---- the region and the total variance hand it on

    -- 37 of `region`
    pub region_37 : TausFit run → (region_run run policy k tau ≡ Err 37) ↔ BeyondLast run tau
    region_37 fit = let h = on.region_as_bracket run valid k tau point policy 37 in (λ e. (bracket_37 fit).0 (h.0 e), λ far. h.1 ((bracket_37 fit).1 far))

    -- 37 of `total_variance`
    pub total_37 : TausFit run → (total_run run policy k tau ≡ Err 37) ↔ BeyondLast run tau
    total_37 fit = let h = on.total_as_bracket run valid k tau point policy 37 (not_valued 37 (omega arith) (omega arith)) in (λ e. (bracket_37 fit).0 (h.0 e), λ far. h.1 ((bracket_37 fit).1 far))
