-- What a valid run has: two to 32 records, each good, of positive and rising tau; and what its arrays hold. Assumes nothing.
use mathlib.Core.Path.{◌≡◌, refl, sym, ap, subst, ◌∙◌}
use mathlib.Core.Bool.{Bool, true, false, not, ◌&&◌, cond}
use mathlib.Core.List.{List}
use Prim.Native.Nat.{ℕ, ◌+◌, ◌-◌, ◌≤◌, ◌<◌}
use native.Mathlib.Nat.{le_of_eq}
use native.Mathlib.Omega.{arith}
use lib.Dec.{T, ltb}
use lib.ListN.{replicate, length-replicate}
use lib.Ieee.{Float, nan, lt, le, of_bits}
use lib.Ieee.Positive.{positive}
use borrow.Author.Tests.{le-ltb, ltb-false}
use Rattle.laws.specs.Floats.{+0, at, finite}
use Rattle.laws.specs.Room.{filled_on}
use Rattle.laws.proofs.Choices.{both, passed_one, passed_number}
use Rattle.laws.proofs.Floats.{finite_no_nan}
use Rattle.laws.proofs.Loops.{for_ind, turns_ind, below_next}
use Rattle.laws.proofs.Order.{lt_or}
use Rattle.laws.proofs.Rooms.{filled_at}
use Rattle.slice.specs.declared.SviSlice.{SviSlice}
use Rattle.slice.specs.Slice.{three_finite, range_number, domain_number, number_of}
use Rattle.surface.specs.declared.types.Run.{Run}
use Rattle.surface.specs.Runs.{slice_at, taus_of, bad_turn, first_bad, rise_turn, rises_of, check_run}
use Rattle.surface.specs.Lookup.{tolerance_of, tolerances_of}
use Rattle.surface.specs.Surface.{tols_of}
use Rattle.theorems.proofs.Spans.{positive_of}

-- a test that was not taken
pub passes : (b : Bool) (n rest : ℕ) → (n ≡ 0 → ⊥) → cond b n rest ≡ 0 → (b ≡ false) × (rest ≡ 0)
passes true n rest f h = absurd (f h)
passes false n rest f h = (refl, h)

-- ---- a good slice has a positive tau

zero_finite : finite +0 ≡ true
unfolding finite of_bits
zero_finite = refl

pub tau_positive : (s : SviSlice) → number_of s ≡ 0 → T (positive s.tau)
unfolding number_of domain_number
tau_positive s h =
    let range = passed_number (range_number s.k_range) _ h in
    let all = passed_one (three_finite s.tau s.a s.b && three_finite s.rho s.m s.sigma) 22 _ (λ e. omega (arith, e)) range.1 in
    let finite-tau : finite s.tau ≡ true = (both _ _ (both _ _ (both _ _ all.0).0).0).0 in
    let above = passes (le s.tau +0) 23 _ (λ e. omega (arith, e)) all.1 in
    positive_of s.tau finite-tau
    (lt_or s.tau +0 (finite_no_nan s.tau finite-tau) (finite_no_nan +0 zero_finite) (subst (λ (b : Bool). T (not b)) (sym above.0) tt))

-- ---- the loops of the tests

all_good : (recs : List SviSlice) (n : ℕ) → first_bad recs n ≡ 0 → (i : ℕ) → i < n → number_of (slice_at recs i) ≡ 0
unfolding first_bad
all_good recs n z =
    for_ind (bad_turn recs) (λ (j s : ℕ). s ≡ 0 → (i : ℕ) → i < j → number_of (slice_at recs i) ≡ 0) n
    (λ j s l p e. let q = passed_number s (number_of (slice_at recs j)) e in below_next (λ (i : ℕ). number_of (slice_at recs i) ≡ 0) j (p q.0) q.1)
    0 (λ e i l. absurd (omega (arith, l))) z

all_rise : (taus : List Float) (n : ℕ) → 1 ≤ n → rises_of taus n ≡ true → (i : ℕ) → i < n → 1 ≤ i → lt (at taus (i - 1)) (at taus i) ≡ true
unfolding rises_of
all_rise taus n two z =
    turns_ind (rise_turn taus) (λ (j : ℕ) (s : Bool). s ≡ true → (i : ℕ) → i < j → 1 ≤ i → lt (at taus (i - 1)) (at taus i) ≡ true) n
    (λ j s l p e. let q = both s (lt (at taus (j - 1)) (at taus j)) e in below_next (λ (i : ℕ). 1 ≤ i → lt (at taus (i - 1)) (at taus i) ≡ true) j (p q.0) (λ m. q.1))
    (n - 1) 1 true (omega (arith, two)) (λ e i l m. absurd (omega (arith, l, m))) z

-- ---- the whole

pub record Valid (run : Run) : Type 0 where
  pub few : run.count ≤ 32
  pub two : 2 ≤ run.count
  pub good : (i : ℕ) → i < run.count → number_of (slice_at run.recs i) ≡ 0
  pub tau_at : (i : ℕ) → i < run.count → at (taus_of run.recs) i ≡ (slice_at run.recs i).tau
  pub tol_at : (i : ℕ) → i < run.count → at (tols_of run) i ≡ tolerance_of (taus_of run.recs) run.count i
  pub rises : (i : ℕ) → i + 1 < run.count → lt (at (taus_of run.recs) i) (at (taus_of run.recs) (i + 1)) ≡ true

taus_hold : (recs : List SviSlice) (i : ℕ) → i < 32 → at (taus_of recs) i ≡ (slice_at recs i).tau
unfolding taus_of filled_on
taus_hold recs i l = filled_at (λ (i : ℕ). (slice_at recs i).tau) nan 32 i (replicate 32 +0) (le_of_eq (sym (length-replicate 32 +0))) l

tols_hold : (taus : List Float) (n i : ℕ) → n ≤ 32 → i < n → at (tolerances_of taus n) i ≡ tolerance_of taus n i
unfolding tolerances_of filled_on
tols_hold taus n i few l =
    ap (λ (b : Bool). at (cond b (replicate 32 +0) (filled_on n (tolerance_of taus n) (replicate 32 +0))) i) (le-ltb 32 n few)
    ∙ filled_at (tolerance_of taus n) nan n i (replicate 32 +0) (let e = length-replicate 32 +0 in omega (arith, e, few)) l

pub valid_run : (run : Run) → check_run run ≡ 0 → Valid run
unfolding check_run
valid_run run z =
    let n = run.count in
    let a = passes (ltb 32 n) 11 _ (λ e. omega (arith, e)) z in
    let b = passed_number (first_bad run.recs n) _ a.1 in
    let c = passes (ltb n 2) 32 _ (λ e. omega (arith, e)) b.1 in
    let d = passed_one (rises_of (taus_of run.recs) n) 33 0 (λ e. omega (arith, e)) c.1 in
    let few : n ≤ 32 = ltb-false 32 n a.0 in
    let two : 2 ≤ n = ltb-false n 2 c.0 in
    record {
      few = few;
      two = two;
      good = all_good run.recs n b.0;
      tau_at = λ i l. taus_hold run.recs i (omega (arith, l, few));
      tol_at = λ i l. tols_hold (taus_of run.recs) n i few l;
      rises = λ i l.
          let e : i + 1 - 1 ≡ i = omega arith in
          subst (λ (j : ℕ). lt (at (taus_of run.recs) j) (at (taus_of run.recs) (i + 1)) ≡ true) e (all_rise (taus_of run.recs) n (omega (arith, two)) d.0 (i + 1) l (omega arith));
    }
