-- A lookup on a valid run, at a point that passes 34 and 35: its floats are positive, no test refuses, and the region and the total variance hand on what is the bracket's alone. Assumes nothing.
use mathlib.Core.Path.{◌≡◌, refl, sym, ap, subst, ◌∙◌}
use mathlib.Core.Bool.{Bool, true, false, not, ◌&&◌, ◌||◌, cond}
use mathlib.Core.List.{List}
use mathlib.Core.Logic.{◌↔◌, ⊎_elim}
use Prim.Native.Nat.{ℕ, zero, suc, ◌+◌, ◌≤◌, ◌<◌}
use native.Mathlib.Nat.{eq-or-lt_of_le}
use native.Mathlib.Omega.{arith}
use lib.Dec.{T}
use lib.Ieee.{Float, binary64, lt, le, ne, is_nan, fits}
use lib.Ieee.Positive.{positive}
use borrow.Author.Tests.{le-ltb}
use Rattle.laws.specs.Floats.{◌-f◌, ◌*f◌, +0, quarter, at, finite, min_of}
use Rattle.laws.specs.Loop.{search_on}
use Rattle.laws.proofs.Choices.{if_false, both, passed_one, number_goes}
use Rattle.laws.proofs.Floats.{self_same}
use Rattle.laws.proofs.Order.{le_self}
use Rattle.laws.proofs.Signs.{signed_no_nan}
use Rattle.point.specs.Point.{point_number}
use Rattle.surface.specs.declared.types.Run.{Run}
use Rattle.surface.specs.declared.types.ShortExpiryPolicy.{ShortExpiryPolicy}
use Rattle.surface.specs.declared.types.Bracket.{Bracket}
use Rattle.surface.specs.Runs.{slice_at, taus_of, check_run}
use Rattle.surface.specs.Lookup.{near_of, lookup_of, bracket_of}
use Rattle.surface.specs.Surface.{region_in, variance_in, variance_at, tols_of, bracket_in, bracket_run, region_run, total_run}
use Rattle.surface.specs.Last.{TausFit}
use Rattle.theorems.proofs.LookupNumbers.{Valued, region_from, variance_from}
use Rattle.theorems.proofs.Spans.{from_true, not_below, positive_of, gap_units, quarter_signed, out_of_reach, out_of_reach_under}
use Rattle.theorems.proofs.ValidRun.{tau_positive, Valid, valid_run}
use Rattle.std.specs.Prelude.{Result, Err}

-- ---- searches

pub search_none : (p : ℕ → Bool) (k i : ℕ) → ((j : ℕ) → i ≤ j → j < i + k → p j ≡ false) → search_on p k i ≡ i + k
unfolding search_on
search_none p zero i h = omega arith
search_none p (suc k) i h =
    ap (λ (b : Bool). cond b i (search_on p k (i + 1))) (h i (omega arith) (omega arith))
    ∙ search_none p k (i + 1) (λ j l m. h j (omega (arith, l)) (omega (arith, m)))
    ∙ (let e : i + 1 + k ≡ i + suc k = omega arith in e)

pub none_found : (p : ℕ → Bool) (k i : ℕ) → i + k ≤ search_on p k i → (j : ℕ) → i ≤ j → j < i + k → p j ≡ false
unfolding search_on
none_found p zero i h j l m = absurd (omega (arith, l, m))
none_found p (suc k) i h j l m = go (p i) refl h (λ g q. none_found p k (i + 1) g j q (omega (arith, m)))
  where
    go : (b : Bool) → p i ≡ b → i + suc k ≤ cond b i (search_on p k (i + 1)) → (i + 1 + k ≤ search_on p k (i + 1) → i + 1 ≤ j → p j ≡ false) → p j ≡ false
    go true e h rest = absurd (omega (arith, h))
    go false e h rest = ⊎_elim (λ (q : i ≡ j). subst (λ (j : ℕ). p j ≡ false) q e) (λ (q : i < j). rest (omega (arith, h)) (omega (arith, q))) (eq-or-lt_of_le l)

-- ---- a tolerance

pub min_le : (a q : Float) → T (not (is_nan q)) → T (le (min_of a q) q)
unfolding min_of
min_le a q n = go (lt q a) (ne a a) refl refl
  where
    go : (s t : Bool) → lt q a ≡ s → ne a a ≡ t → T (le (cond (s || t) q a) q)
    go true t e h = le_self q n
    go false true e h = le_self q n
    go false false e h = not_below a q (self_same a h) n e

-- ---- the lookup

module _ (run : Run) (valid : check_run run ≡ 0) (k tau : Float) (point : point_number k tau ≡ 0) where
  v : Valid run
  v = valid_run run valid

  abbrev n : ℕ
  n = run.count

  abbrev taus : List Float
  taus = taus_of run.recs

  pub tau_above : T (positive tau)
  unfolding point_number
  tau_above =
      let a = passed_one (finite k) 34 _ (λ e. omega (arith, e)) point in
      let b = passed_one (finite tau && lt +0 tau) 35 0 (λ e. omega (arith, e)) a.1 in
      let c = both (finite tau) (lt +0 tau) b.0 in
      positive_of tau c.0 (from_true c.1)

  pub node_above : (i : ℕ) → i < n → T (positive (at taus i))
  node_above i l = subst (λ (x : Float). T (positive x)) (sym (v.tau_at i l)) (tau_positive (slice_at run.recs i) (v.good i l))

  -- two neighbours: a tolerance of at most a quarter of their gap does not reach across it, upward or downward
  module _ (fit : TausFit run) (i : ℕ) (l : i + 1 < n) where
    here : i < n
    here = omega (arith, l)

    fits_at : (j : ℕ) → j < n → T (fits binary64 (at taus j))
    fits_at j m = subst (λ (x : Float). T (fits binary64 x)) (sym (v.tau_at j m)) (fit j m)

    rising : T (lt (at taus i) (at taus (i + 1)))
    rising = from_true (v.rises i l)

    abbrev pub quarter_gap : Float
    quarter_gap = quarter *f (at taus (i + 1) -f at taus i)

    pub quarter_real : T (not (is_nan quarter_gap))
    quarter_real = signed_no_nan false _ (quarter_signed _ (gap_units (at taus i) (at taus (i + 1)) (fits_at i here) (fits_at (i + 1) l) (node_above i here) (node_above (i + 1) l) rising))

    pub far_above : T (le (at taus (i + 1)) tau) → (t : Float) → T (le t quarter_gap) → near_of (at taus i) tau t ≡ false
    far_above up_to_lem = out_of_reach (at taus i) (at taus (i + 1)) (fits_at i here) (fits_at (i + 1) l) (node_above i here) (node_above (i + 1) l) rising tau tau_above up_to_lem

    pub far_below : T (le tau (at taus i)) → (t : Float) → T (le t quarter_gap) → near_of (at taus (i + 1)) tau t ≡ false
    far_below down_to = out_of_reach_under (at taus i) (at taus (i + 1)) (fits_at i here) (fits_at (i + 1) l) (node_above i here) (node_above (i + 1) l) rising tau tau_above down_to

  module _ (policy : ShortExpiryPolicy) where
    bracket_is : bracket_run run policy k tau ≡ bracket_in run policy k tau
    unfolding bracket_run
    bracket_is = sym (number_goes _ refl valid refl)

    pub lookup_is : bracket_run run policy k tau ≡ lookup_of taus (tols_of run) n policy tau
    unfolding bracket_in bracket_of
    lookup_is = bracket_is ∙ sym (if_false _ (le-ltb 32 n v.few) (number_goes _ refl point refl))

    region_is : region_run run policy k tau ≡ region_in run.recs (bracket_run run policy k tau) k
    unfolding region_run
    region_is = sym (number_goes _ refl valid (ap (λ (b : Result Bracket ℕ). region_in run.recs b k) bracket_is))

    total_is : total_run run policy k tau ≡ variance_in run.recs (bracket_run run policy k tau) k tau
    unfolding total_run variance_at bracket_in
    total_is = sym (number_goes _ refl valid (ap (λ (b : Result Bracket ℕ). variance_in run.recs b k tau) bracket_is))

    module _ (c : ℕ) where
      pub region_as_bracket : (region_run run policy k tau ≡ Err c) ↔ (bracket_run run policy k tau ≡ Err c)
      region_as_bracket = (
        λ e. region_from run.recs (bracket_run run policy k tau) k c (sym region_is ∙ e),
        λ e. region_is ∙ ap (λ (b : Result Bracket ℕ). region_in run.recs b k) e,
      )

      -- where the number is none of an evaluation or of a total variance
      pub total_as_bracket : (Valued c → ⊥) → (total_run run policy k tau ≡ Err c) ↔ (bracket_run run policy k tau ≡ Err c)
      total_as_bracket never = (
        λ e. ⊎_elim (λ (b : bracket_run run policy k tau ≡ Err c). b) (λ (v : Valued c). absurd (never v)) (variance_from run.recs (bracket_run run policy k tau) k tau c (sym total_is ∙ e)),
        λ e. total_is ∙ ap (λ (b : Result Bracket ℕ). variance_in run.recs b k tau) e,
      )
