-- Each refusal exactly when: the number of an answer is n if and only if the condition of refusal n holds and that of none asked before it does; it is 0 if and only if no condition holds.
use mathlib.Core.Path.{◌≡◌, refl, sym, ap, subst, ◌∙◌}
use mathlib.Core.Logic.{◌↔◌, ◌⊎◌, inl, inr, ⊎_elim}
use mathlib.Core.Bool.{Bool, true, false, cond}
use mathlib.Core.List.{List}
use Prim.Native.Nat.{ℕ, ◌+◌, ◌-◌, ◌≤◌, ◌<◌}
use native.Mathlib.Omega.{arith}
use native.Mathlib.Nat.{eq-or-lt_of_le}
use lib.Dec.{eqb, leb}
use lib.ListN.{length}
use lib.Ieee.{Float}
use borrow.Author.Tests.{eq-eqb, ne_eqb, leb-true, leb-false, le-leb, lt-leb}
use Rattle.moves.specs.Moves.{is_refused}
use Rattle.laws.specs.Choice.{unless}
use Rattle.laws.specs.Some.{Some}
use Rattle.laws.specs.Floats.{at, positive}
use Rattle.laws.proofs.Choices.{cond_test, off}
use Rattle.laws.proofs.Comparing.{lt_or_le}
use Rattle.slice.specs.declared.SviSlice.{SviSlice}
use Rattle.slice.specs.Slice.{number_of}
use Rattle.weights.specs.Weights.{all_good}
use Rattle.records.specs.declared.FitConfig.{FitConfig}
use Rattle.records.specs.Settings.{settings_hold, sizes_hold}
use Rattle.entry.specs.Entry.{lengths_hold, columns_pass, span_of, checks_number, entry_number}
use Rattle.judge.specs.Judge.{sums_of, params_hold, rmse_holds}
use Rattle.calibrate.specs.Fit.{a_max_for, scaled_for, search_for, fit_of}
use Rattle.calibrate.proofs.EachNumber.{late_number, answer_number}
use Rattle.calibrate.specs.When as when
use Rattle.entry.specs.When.{UnequalOrShort, OverSize, BadObservation, BadSettings, EntryFails}
use Rattle.calibrate.specs.When.{FacelessPass, OnEdge, turn}
use Rattle.judge.specs.When.{OutOfDomain, RmseAboveMax, rmse_at}
use Rattle.entry.specs.When as entry
use Rattle.entry.proofs.Conditions as test
use Rattle.theorems.proofs.Conditions as late

-- ---- the order

-- the number asked at a turn
abbrev back : ℕ → ℕ
back k = cond (leb k 2) (12 - k) (k - 2)

back_turn : (m : ℕ) → 1 ≤ m → m ≤ 12 → back (turn m) ≡ m
back_turn m l h = go (leb 10 m) refl
  where
    go : (t : Bool) → leb 10 m ≡ t → back (cond t (12 - m) (m + 2)) ≡ m
    go true e = let k = leb-true 10 m e in ap (λ (t : Bool). cond t (12 - (12 - m)) (12 - m - 2)) (le-leb (12 - m) 2 (omega arith)) ∙ omega arith
    go false e = ap (λ (t : Bool). cond t (12 - (m + 2)) (m + 2 - 2)) (lt-leb (m + 2) 2 (omega arith)) ∙ omega arith

turn_below : (m : ℕ) → 1 ≤ m → turn m < 12
turn_below m l = go (leb 10 m) refl
  where
    go : (t : Bool) → leb 10 m ≡ t → cond t (12 - m) (m + 2) < 12
    go true e = omega arith
    go false e = let k = leb-false 10 m e in omega arith

module _ (tau : Float) (c : FitConfig) (ks ws weights : List Float) (room slots : ℕ) where
  -- the condition of refusal n holds; none asked before n does; the answer's number
  abbrev pub Fails : ℕ → Type 0
  Fails = when.Fails tau c ks ws weights room slots

  abbrev pub NoneBefore : ℕ → Type 0
  NoneBefore = when.NoneBefore tau c ks ws weights room slots

  abbrev pub number : ℕ
  number = (fit_of tau c ks ws weights room slots).number

  -- the scaled weights, and the slice that the fit tries
  abbrev pub scaled : List Float
  scaled = scaled_for c weights

  abbrev pub tried : SviSlice
  tried = when.tried tau c ks ws weights room slots

  -- ---- one by one

  -- the condition of refusal n
  abbrev Own : ℕ → Type 0
  Own n =
      cond (eqb n 12) (UnequalOrShort ks ws weights room slots)
      (cond (eqb n 11) (OverSize (length ks) c)
      (cond (eqb n 10) (Some (length ks) (λ i. BadObservation (at ks i) (at ws i) (at weights i)))
      (cond (eqb n 1) (BadSettings c)
      (cond (eqb n 2) (positive tau ≡ false)
      (cond (eqb n 3) (length ks < c.min_observations)
      (cond (eqb n 4) (positive (span_of ks) ≡ false)
      (cond (eqb n 5) (Some (length weights) (λ i. positive (at scaled i) ≡ false))
      (cond (eqb n 6) (FacelessPass c ks ws scaled)
      (cond (eqb n 7) (OnEdge c ks ws scaled)
      (cond (eqb n 8) (OutOfDomain c tried ks ws scaled (a_max_for c ws) (search_for c ks ws weights).found.cell.objective)
      (cond (eqb n 9) (RmseAboveMax c tried ks ws scaled)
      ⊥)))))))))))

  entry_own : (n : ℕ) → EntryFails tau c ks ws weights room slots n → Own n
  entry_own n =
      elim [
        | entry.lengths e p ↦ subst Own (sym e) p
        | entry.sizes e p ↦ subst Own (sym e) p
        | entry.observation e p ↦ subst Own (sym e) p
        | entry.settings e p ↦ subst Own (sym e) p
        | entry.expiry e p ↦ subst Own (sym e) p
        | entry.too_few e p ↦ subst Own (sym e) p
        | entry.no_span e p ↦ subst Own (sym e) p
        | entry.bad_weight e p ↦ subst Own (sym e) p
      ]

  own : (n : ℕ) → Fails n → Own n
  own n =
      elim [
        | when.at_entry f ↦ entry_own n f
        | when.no_face e p ↦ subst Own (sym e) p
        | when.on_edge e p ↦ subst Own (sym e) p
        | when.out_of_domain e p ↦ subst Own (sym e) p
        | when.rmse_high e p ↦ subst Own (sym e) p
      ]

  -- a condition's number is one of 1 to 12
  entry_ranged : (n : ℕ) → EntryFails tau c ks ws weights room slots n → (1 ≤ n) × (n ≤ 12)
  entry_ranged n =
      elim [
        | entry.lengths e p ↦ (omega arith, omega arith)
        | entry.sizes e p ↦ (omega arith, omega arith)
        | entry.observation e p ↦ (omega arith, omega arith)
        | entry.settings e p ↦ (omega arith, omega arith)
        | entry.expiry e p ↦ (omega arith, omega arith)
        | entry.too_few e p ↦ (omega arith, omega arith)
        | entry.no_span e p ↦ (omega arith, omega arith)
        | entry.bad_weight e p ↦ (omega arith, omega arith)
      ]

  ranged : (n : ℕ) → Fails n → (1 ≤ n) × (n ≤ 12)
  ranged n =
      elim [
        | when.at_entry f ↦ entry_ranged n f
        | when.no_face e p ↦ (omega arith, omega arith)
        | when.on_edge e p ↦ (omega arith, omega arith)
        | when.out_of_domain e p ↦ (omega arith, omega arith)
        | when.rmse_high e p ↦ (omega arith, omega arith)
      ]

  -- ---- the tests in their order

  -- no condition asked before turn k holds
  abbrev Clear : ℕ → Type 0
  Clear k = (m : ℕ) → turn m < k → ¬ Fails m

  none_yet : Clear 0
  none_yet m l f = omega arith

  next : (k : ℕ) → ¬ Own (back k) → Clear k → Clear (k + 1)
  next k f' all m l f =
      let r = ranged m f in
      let le : turn m ≤ k = omega arith in
      ⊎_elim (λ (e : turn m ≡ k). f' (subst Own (sym (back_turn m r.0 r.1) ∙ ap back e) (own m f))) (λ h. all m h f) (eq-or-lt_of_le le)

  -- n is 0 and no condition asked before turn k holds, or n is the number of the first that does
  abbrev Told : ℕ → ℕ → Type 0
  Told k n = ((n ≡ 0) × Clear k) ⊎ (Fails n × Clear (turn n))

  checks_told : Told 7 (checks_number tau c ks ws weights room slots)
  unfolding checks_number
  checks_told =
      cond_test (Told 7) (lengths_hold ks ws weights room slots)
      (λ e. let c1 = next 0 (test.lengths_refute ks ws weights room slots e) none_yet in
      cond_test (Told 7) (sizes_hold (length ks) c)
      (λ e. let c2 = next 1 (test.sizes_refute (length ks) c e) c1 in
      cond_test (Told 7) (columns_pass ks ws weights)
      (λ e. let c3 = next 2 (test.observations_refute ks ws weights e) c2 in
      cond_test (Told 7) (settings_hold c)
      (λ e. let c4 = next 3 (test.settings_refute c e) c3 in
      cond_test (Told 7) (positive tau)
      (λ e. let c5 = next 4 (λ h. off h e) c4 in
      cond_test (Told 7) (leb c.min_observations (length ks))
      (λ e. let c6 = next 5 (λ h. let l = leb-true c.min_observations (length ks) e in omega arith) c5 in
      cond_test (Told 7) (positive (span_of ks))
      (λ e. inl (refl, next 6 (λ h. off h e) c6))
      (λ h. inr (when.at_entry (entry.no_span refl h), c6)))
      (λ h. inr (when.at_entry (entry.too_few refl (leb-false _ _ h)), c5)))
      (λ h. inr (when.at_entry (entry.expiry refl h), c4)))
      (λ h. inr (when.at_entry (entry.settings refl (test.settings_fail c h)), c3)))
      (λ h. inr (when.at_entry (entry.observation refl (test.observations_fail ks ws weights h)), c2)))
      (λ h. inr (when.at_entry (entry.sizes refl (test.sizes_fail (length ks) c h)), c1)))
      (λ h. inr (when.at_entry (entry.lengths refl (test.lengths_fail ks ws weights room slots h)), none_yet))

  -- a number that is handed on, and what is asked after it
  joined : (j k m rest : ℕ) → Told j m → (Clear j → Told k rest) → Told k (unless (eqb m 0) m rest)
  joined j k m rest told after =
      ⊎_elim
      (λ (h : (m ≡ 0) × Clear j). subst (λ (t : Bool). Told k (cond t rest m)) (sym (eq-eqb m 0 h.0)) (after h.1))
      (λ (h : Fails m × Clear (turn m)). subst (λ (t : Bool). Told k (cond t rest m)) (sym (ne_eqb m 0 (λ z. let r = (ranged m h.0).0 in omega arith))) (inr h))
      told

  entry_told : Told 8 (entry_number tau c ks ws weights room slots)
  unfolding entry_number
  entry_told =
      joined 7 8 (checks_number tau c ks ws weights room slots) _ checks_told
      (λ c7.
      cond_test (Told 8) (all_good scaled)
      (λ e. inl (refl, next 7 (test.weights_refute c.max_weight_ratio weights e) c7))
      (λ h. inr (when.at_entry (entry.bad_weight refl (test.weights_fail c.max_weight_ratio weights h)), c7)))

  settings_hold_lem : Clear 8 → settings_hold c ≡ true
  settings_hold_lem all = go (settings_hold c) refl
    where
      go : (t : Bool) → settings_hold c ≡ t → settings_hold c ≡ true
      go true e = e
      go false e = absurd (all 1 (omega arith) (when.at_entry (entry.settings refl (test.settings_fail c e))))

  late_told : Clear 8 → Told 12 (late_number tau c ks ws scaled)
  unfolding late_number
  late_told c8 =
      let high = a_max_for c ws in
      let o = (search_for c ks ws weights).found.cell.objective in
      cond_test (Told 12) (is_refused (search_for c ks ws weights))
      (λ h. inr (when.no_face refl (late.search_fails c ks ws scaled h), c8))
      (λ e. let c9 = next 8 (late.search_refutes c ks ws scaled e) c8 in
      cond_test (Told 12) (search_for c ks ws weights).found.on_edge
      (λ h. inr (when.on_edge refl h, c9))
      (λ e. let c10 = next 9 (λ h. off e h) c9 in
      cond_test (Told 12) (eqb (number_of tried) 0)
      (λ x. cond_test (Told 12) (params_hold c high o (sums_of tried ks ws scaled))
      (λ y. let c11 = next 10 (late.domain_refutes c tried ks ws scaled high o x y) c10 in
      cond_test (Told 12) (rmse_holds c (rmse_at tried ks ws scaled))
      (λ e. inl (refl, next 11 (late.rmse_refutes c tried ks ws scaled e) c11))
      (λ h. inr (when.rmse_high refl (late.rmse_fails c tried ks ws scaled (settings_hold_lem c8) h), c11)))
      (λ h. inr (when.out_of_domain refl (late.params_fail c tried ks ws scaled high o h), c10)))
      (λ h. inr (when.out_of_domain refl (late.slice_fails c tried ks ws scaled high o h), c10))))

  told : Told 12 number
  told = subst (Told 12) (sym (answer_number tau c ks ws weights room slots)) (joined 8 12 (entry_number tau c ks ws weights room slots) (late_number tau c ks ws scaled) entry_told late_told)

  -- ---- the theorems

  pub first_failing : (n : ℕ) → ¬ (n ≡ 0) → (number ≡ n) ↔ (Fails n × NoneBefore n)
  first_failing n z = (forth, back_to)
    where
      forth : number ≡ n → Fails n × NoneBefore n
      forth e =
          ⊎_elim (λ (h : (number ≡ 0) × Clear 12). absurd (z (sym e ∙ h.0)))
          (λ (h : Fails number × Clear (turn number)). subst (λ (k : ℕ). Fails k × Clear (turn k)) e h) told

      back_to : Fails n × NoneBefore n → number ≡ n
      back_to f =
          let r = ranged n f.0 in
          ⊎_elim (λ (h : (number ≡ 0) × Clear 12). absurd (h.1 n (turn_below n r.0) f.0))
          (λ (h : Fails number × Clear (turn number)).
          let q = ranged number h.0 in
          ⊎_elim (λ l. absurd (f.1 number l h.0))
          (λ (l : turn n ≤ turn number).
          ⊎_elim (λ (e : turn n ≡ turn number). sym (back_turn number q.0 q.1) ∙ ap back (sym e) ∙ back_turn n r.0 r.1) (λ l. absurd (h.1 n l f.0)) (eq-or-lt_of_le l))
          (lt_or_le (turn number) (turn n))) told

  pub none_failing : (number ≡ 0) ↔ ((n : ℕ) → ¬ Fails n)
  none_failing = (forth, back_to)
    where
      forth : number ≡ 0 → (n : ℕ) → ¬ Fails n
      forth e n f =
          ⊎_elim (λ (h : (number ≡ 0) × Clear 12). h.1 n (turn_below n (ranged n f).0) f)
          (λ (h : Fails number × Clear (turn number)). let r = (ranged number h.0).0 in omega arith) told

      back_to : ((n : ℕ) → ¬ Fails n) → number ≡ 0
      back_to h' = ⊎_elim (λ (h : (number ≡ 0) × Clear 12). h.0) (λ (h : Fails number × Clear (turn number)). absurd (h' number h.0)) told

  exactly : (n : ℕ) → ¬ (n ≡ 0) → {P : Type 0} → (P → Fails n) → (Fails n → P) → (number ≡ n) ↔ (P × NoneBefore n)
  exactly n z f g =
      let w = first_failing n z in
      (λ e. let h = w.0 e in (g h.0, h.1), λ h. w.1 (f h.0, h.1))

  -- ---- number by number, in their order

  pub when_12 : (number ≡ 12) ↔ UnequalOrShort ks ws weights room slots
  when_12 =
      let w = exactly 12 (λ z. omega arith) (λ p. when.at_entry (entry.lengths refl p)) (own 12) in
      (λ e. (w.0 e).0, λ p. w.1 (p, none_yet))

  pub when_11 : (number ≡ 11) ↔ (OverSize (length ks) c × NoneBefore 11)
  when_11 = exactly 11 (λ z. omega arith) (λ p. when.at_entry (entry.sizes refl p)) (own 11)

  pub when_10 : (number ≡ 10) ↔ (Some (length ks) (λ i. BadObservation (at ks i) (at ws i) (at weights i)) × NoneBefore 10)
  when_10 = exactly 10 (λ z. omega arith) (λ p. when.at_entry (entry.observation refl p)) (own 10)

  pub when_1 : (number ≡ 1) ↔ (BadSettings c × NoneBefore 1)
  when_1 = exactly 1 (λ z. omega arith) (λ p. when.at_entry (entry.settings refl p)) (own 1)

  pub when_2 : (number ≡ 2) ↔ ((positive tau ≡ false) × NoneBefore 2)
  when_2 = exactly 2 (λ z. omega arith) (λ p. when.at_entry (entry.expiry refl p)) (own 2)

  pub when_3 : (number ≡ 3) ↔ ((length ks < c.min_observations) × NoneBefore 3)
  when_3 = exactly 3 (λ z. omega arith) (λ p. when.at_entry (entry.too_few refl p)) (own 3)

  pub when_4 : (number ≡ 4) ↔ ((positive (span_of ks) ≡ false) × NoneBefore 4)
  when_4 = exactly 4 (λ z. omega arith) (λ p. when.at_entry (entry.no_span refl p)) (own 4)

  pub when_5 : (number ≡ 5) ↔ (Some (length weights) (λ i. positive (at scaled i) ≡ false) × NoneBefore 5)
  when_5 = exactly 5 (λ z. omega arith) (λ p. when.at_entry (entry.bad_weight refl p)) (own 5)

  pub when_6 : (number ≡ 6) ↔ (FacelessPass c ks ws scaled × NoneBefore 6)
  when_6 = exactly 6 (λ z. omega arith) (when.no_face refl) (own 6)

  pub when_7 : (number ≡ 7) ↔ (OnEdge c ks ws scaled × NoneBefore 7)
  when_7 = exactly 7 (λ z. omega arith) (when.on_edge refl) (own 7)

  pub when_8 : (number ≡ 8) ↔ (OutOfDomain c tried ks ws scaled (a_max_for c ws) (search_for c ks ws weights).found.cell.objective × NoneBefore 8)
  when_8 = exactly 8 (λ z. omega arith) (when.out_of_domain refl) (own 8)

  pub when_9 : (number ≡ 9) ↔ (RmseAboveMax c tried ks ws scaled × NoneBefore 9)
  when_9 = exactly 9 (λ z. omega arith) (when.rmse_high refl) (own 9)
