-- Every answer has one of the forms of the print rules: a malformed file's one line; 11, 10 or 44 with as many kept as read; 1, 2, 4, 5; 3 with its two counts;
-- 6, 7, 8 behind `search`; 9 behind `search` with its two floats; or an accepted fit.
use Prim.Native.Nat.{ℕ, zero, suc, ◌+◌, ◌*◌, ◌≤◌, ◌<◌}
use mathlib.Core.Path.{◌≡◌, refl, sym, subst, ◌∙◌}
use mathlib.Core.Bool.{Bool, true, false, ◌||◌, cond}
use mathlib.Core.List.{List, [], ◌∷◌, ◌++◌, map}
use native.Mathlib.Omega.{arith}
use lib.Dec.{eqb, leb}
use lib.ListN.{length, length-map}
use lib.Ieee.{Float}
use borrow.Author.Tests.{eq-eqb, eqb-true, le-leb}
use Rattle.std.specs.Prelude.{Option, None, Some}
use Rattle.laws.specs.Choice.{unless}
use Rattle.moves.specs.Moves.{is_refused}
use Rattle.laws.specs.Floats.{+0, at, positive}
use Rattle.laws.proofs.Choices.{cond_ind, false_true, both}
use Rattle.laws.proofs.Loops.{for_ind}
use Rattle.slice.specs.declared.SviSlice.{SviSlice}
use Rattle.slice.specs.Slice.{number_of}
use Rattle.records.specs.declared.Counts.{Counts}
use Rattle.weights.specs.Weights.{scaled_of, all_good, capped_of}
use Rattle.records.specs.declared.FitConfig.{FitConfig}
use Rattle.records.specs.declared.FitAnswer.{FitAnswer}
use Rattle.records.specs.Answer.{refused_with}
use Rattle.records.specs.Settings.{settings_hold, sizes_hold}
use Rattle.entry.specs.Entry.{lengths_hold, columns_pass, span_of, checks_number, entry_number}
use Rattle.records.specs.Observation.{passes}
use Rattle.judge.specs.Judge.{sums_of, params_hold, rmse_of, rmse_holds}
use Rattle.calibrate.specs.End.{accepted_of, end_of}
use Rattle.calibrate.specs.Fit.{fit_search, best_end, search_end, decided_of, refused_early, capped_as, fit_of, residuals_of}
use Rattle.house.specs.declared.Layout.{Layout}
use Rattle.house.specs.declared.Quote.{Quote}
use Rattle.house.specs.File.{house_of, tau_of, config_of, records_at}
use Rattle.house.specs.Check.{k_of, w_of, weight_of, quote_passes, all_pass}
use Rattle.house.specs.Repeats.{all_agree, kept as firsts}
use Rattle.house.specs.Taken.{intake_number, kept_for, kept_of}
use Rattle.house.proofs.Files.{file_is, quotes_length}
use Rattle.house.proofs.Taking.{passed}
use Rattle.house.proofs.Once.{kept_short, kept_passes, sizes_same}
use Rattle.outcome.specs.Outcome.{OutcomeAnswer, outcome_with, refused_at, fit_for, quotes_outcome, outcome_for, file_outcome, settings_for, settings_of}
use Rattle.text.specs.Lines.{read_line, search_line, capped_line, point_lines, refused_line, refused_floats}
use Rattle.text.specs.Answers.{malformed_text, refused_of, refusal_text, figures_text}
use Rattle.run.specs.Answer.{rest_text, behind_read, answer_of}

pub data Form : List ℕ → Type 0 where
  malformed : Form (refused_line 43 0 0)
  before_dropping : (number read : ℕ) → (eqb number 11 || eqb number 10 || eqb number 44) ≡ true → Form (read_line read read ++ refused_line number 0 0)
  entry : (number read kept : ℕ) → (eqb number 1 || eqb number 2 || eqb number 4 || eqb number 5) ≡ true → Form (read_line read kept ++ refused_line number 0 0)
  too_few : (read kept required : ℕ) → Form (read_line read kept ++ refused_line 3 kept required)
  searched : (number read kept : ℕ) (counts : Counts) → (eqb number 6 || eqb number 7 || eqb number 8) ≡ true → Form (read_line read kept ++ (search_line counts ++ refused_line number 0 0))
  residuals_large : (read kept : ℕ) (counts : Counts) (rmse most : Float) → Form (read_line read kept ++ (search_line counts ++ refused_floats rmse most))
  accepted : (read kept : ℕ) (a : FitAnswer) (residuals : List Float) (capped : List ℕ) → Form (read_line read kept ++ (figures_text a ++ (capped_line capped ++ point_lines residuals)))

-- ---- the columns of records that pass, pass

pass_at : (qs : List Quote) (i : ℕ) → all_pass qs ≡ true → i < length qs → passes (at (map k_of qs) i) (at (map w_of qs) i) (at (map weight_of qs) i) ≡ true
unfolding all_pass quote_passes
pass_at [] i h l = absurd (omega arith)
pass_at (q ∷ qs) zero h l = (both (quote_passes q) (all_pass qs) h).0
pass_at (q ∷ qs) (suc i) h l = pass_at qs i (both (quote_passes q) (all_pass qs) h).1 (omega arith)

columns_pass_lem : (qs : List Quote) → all_pass qs ≡ true → columns_pass (map k_of qs) (map w_of qs) (map weight_of qs) ≡ true
unfolding columns_pass
columns_pass_lem qs h =
    for_ind _ (λ (i : ℕ) (b : Bool). b ≡ true) (length (map k_of qs))
    (λ i b l e. rw (e, pass_at qs i h (omega (arith, l, length-map qs k_of))))
    true refl

-- ---- the forms of a fit's answer

-- behind the `read` line
abbrev fit_rest : FitConfig → List Float → List Float → List Float → FitAnswer → List ℕ
fit_rest c ks ws weights a =
    unless (eqb a.number 0) (refusal_text a)
    (figures_text a ++ (capped_line (capped_of c.max_weight_ratio weights) ++ point_lines (residuals_of a.slice ks ws)))

module _ (read kept : ℕ) (tau : Float) (c : FitConfig) (ks ws weights : List Float) (long : length ks ≡ kept) where
  abbrev P : FitAnswer → Type 0
  P a = Form (read_line read kept ++ fit_rest c ks ws weights a)

  -- an entry check that fails
  abbrev Early : ℕ → Type 0
  Early r = eqb r 0 ≡ false → P (refused_early r (length ks) c.min_observations)

  early_0 : Early 0
  early_0 h = false_true (sym h)

  early_1 : Early 1
  unfolding refusal_text refused_of refused_with
  early_1 h = entry 1 read kept refl

  early_2 : Early 2
  unfolding refusal_text refused_of refused_with
  early_2 h = entry 2 read kept refl

  early_3 : Early 3
  unfolding refusal_text refused_of refused_with
  early_3 h = subst (λ (n : ℕ). Form (read_line read kept ++ refused_line 3 n c.min_observations)) (sym long) (too_few read kept c.min_observations)

  early_4 : Early 4
  unfolding refusal_text refused_of refused_with
  early_4 h = entry 4 read kept refl

  early_5 : Early 5
  unfolding refusal_text refused_of refused_with
  early_5 h = entry 5 read kept refl

  module _ (room slots : ℕ) (lengths : lengths_hold ks ws weights room slots ≡ true) (sizes : sizes_hold (length ks) c ≡ true) (observations : columns_pass ks ws weights ≡ true) where
    first : Early (checks_number tau c ks ws weights room slots)
    unfolding checks_number
    first =
        rw (lengths, sizes, observations)
        (cond_ind Early (settings_hold c)
        (cond_ind Early (positive tau)
        (cond_ind Early (leb c.min_observations (length ks))
        (cond_ind Early (positive (span_of ks)) early_0 early_4)
        early_3)
        early_2)
        early_1)

    early : Early (entry_number tau c ks ws weights room slots)
    unfolding entry_number
    early = cond_ind Early (eqb (checks_number tau c ks ws weights room slots) 0) (cond_ind Early (all_good (scaled_of c.max_weight_ratio weights)) early_0 early_5) first

  -- what the end of the fit decided, with m capped where it accepted
  abbrev Late : ℕ → FitAnswer → Type 0
  Late m d = (eqb d.number 0 ≡ false → P d) × (eqb d.number 0 ≡ true → P (capped_as d m))

  module _ (m : ℕ) (n : Counts) where
    late_6 : Late m (refused_with 6 0 0 +0 +0 n)
    unfolding refusal_text refused_of refused_with
    late_6 = (λ h. searched 6 read kept n refl, λ h. false_true h)

    late_7 : Late m (refused_with 7 0 0 +0 +0 n)
    unfolding refusal_text refused_of refused_with
    late_7 = (λ h. searched 7 read kept n refl, λ h. false_true h)

    late_8 : Late m (refused_with 8 0 0 +0 +0 n)
    unfolding refusal_text refused_of refused_with
    late_8 = (λ h. searched 8 read kept n refl, λ h. false_true h)

    late_9 : (rmse most : Float) → Late m (refused_with 9 0 0 rmse most n)
    unfolding refusal_text refused_of refused_with
    late_9 rmse most = (λ h. residuals_large read kept n rmse most, λ h. false_true h)

    late_0 : (objective : Float) (active : List Bool) (s : SviSlice) (params rmse : Float) → Late m (accepted_of c n objective active s params rmse)
    unfolding accepted_of capped_as
    late_0 objective active s params rmse = (λ h. false_true (sym h), λ h. accepted read kept _ _ _)

    ended : (a-max objective : Float) (active : List Bool) (s : SviSlice) (us : List Float) → Late m (end_of c n a-max objective active s ks ws us)
    unfolding end_of
    ended a-max objective active s us =
        let t = sums_of s ks ws us in
        let rmse = rmse_of t (length ks) in
        cond_ind (Late m) (eqb (number_of s) 0)
        (cond_ind (Late m) (params_hold c a-max objective t)
        (cond_ind (Late m) (rmse_holds c rmse) (late_0 objective active s t.params rmse) (late_9 rmse c.max_rmse_vol))
        late_8)
        late_8

  late : (m : ℕ) (us : List Float) → Late m (decided_of tau c ks ws us)
  unfolding decided_of search_end best_end
  late m us =
      let s = fit_search c ks ws us in
      cond_ind (Late m) (is_refused s) (late_6 m s.counts)
      (cond_ind (Late m) s.found.on_edge (late_7 m s.counts) (ended m s.counts _ _ _ _ us))

  choice : (d : FitAnswer) (m : ℕ) (b : Bool) → eqb d.number 0 ≡ b → Late m d → P (unless b d (capped_as d m))
  choice d m true e l = l.1 e
  choice d m false e l = l.0 e

  outcome : (r : ℕ) (b : Bool) → eqb r 0 ≡ b → Early r → (a : FitAnswer) → P a → P (unless b (refused_early r (length ks) c.min_observations) a)
  outcome r true e f a p = p
  outcome r false e f a p = f e

  fit_form : (room slots : ℕ) → lengths_hold ks ws weights room slots ≡ true → sizes_hold (length ks) c ≡ true → columns_pass ks ws weights ≡ true → P (fit_of tau c ks ws weights room slots)
  unfolding fit_of
  fit_form room slots x y z =
      let us = scaled_of c.max_weight_ratio weights in
      let d = decided_of tau c ks ws us in
      let m = length (capped_of c.max_weight_ratio weights) in
      outcome (entry_number tau c ks ws weights room slots) _ refl (early room slots x y z) _ (choice d m _ refl (late m us))

-- ---- the forms of a file's answer

columns_fit : (qs : List Quote) → length qs ≤ 256 → lengths_hold (map k_of qs) (map w_of qs) (map weight_of qs) 1024 256 ≡ true
unfolding lengths_hold
columns_fit qs l =
    let n = length qs in
    rw (
      length-map qs k_of,
      length-map qs w_of,
      length-map qs weight_of,
      eq-eqb n n refl,
      le-leb (n * 4) 1024 (omega arith),
      le-leb n 256 l,
    )

-- of at most 256 quotes
module _ (tau : Float) (config : FitConfig) (qs : List Quote) (l : length qs ≤ 256) where
  abbrev Printed : OutcomeAnswer → Type 0
  Printed o = Form (read_line o.read o.kept ++ rest_text o.fit config (firsts qs))

  -- before dropping: 12 cannot be, there is room
  abbrev Refused : ℕ → Type 0
  Refused r = eqb r 0 ≡ false → Printed (refused_at r (length qs))

  refused_0 : Refused 0
  refused_0 h = false_true (sym h)

  refused_10 : Refused 10
  unfolding rest_text refusal_text refused_of refused_with
  refused_10 h = before_dropping 10 (length qs) refl

  refused_11 : Refused 11
  unfolding rest_text refusal_text refused_of refused_with
  refused_11 h = before_dropping 11 (length qs) refl

  refused_44 : Refused 44
  unfolding rest_text refusal_text refused_of refused_with
  refused_44 h = before_dropping 44 (length qs) refl

  refused : Refused (intake_number config qs 1024 256)
  unfolding intake_number
  refused =
      rw (le-leb (length qs * 4) 1024 (omega arith), le-leb (length qs) 256 l)
      (cond_ind Refused (sizes_hold (length qs) config) (cond_ind Refused (all_pass qs) (cond_ind Refused (all_agree qs) refused_0 refused_44) refused_10) refused_11)

  quotes_form : Printed (quotes_outcome tau config qs 1024 256)
  unfolding quotes_outcome rest_text
  quotes_form = by (eqb r 0) refl
    where
      r : ℕ
      r = intake_number config qs 1024 256

      ks : List Quote
      ks = firsts qs

      small : length ks ≤ 256
      small = omega (arith, kept_short qs)

      by : (b : Bool) → eqb r 0 ≡ b → Printed (unless b (refused_at r (length qs)) (outcome_with (length qs) (length ks) (fit_for tau config ks 1024 256)))
      by false f = refused f
      by true f =
          let p = passed config qs 1024 256 (eqb-true r 0 f) in
          fit_form (length qs) (length ks) tau config (map k_of ks) (map w_of ks) (map weight_of ks) (length-map ks k_of) 1024 256 (columns_fit ks small)
          (sizes_same (length (map k_of ks)) (length qs) config (omega (arith, length-map ks k_of, small)) l ∙ p.1)
          (columns_pass_lem ks (kept_passes qs ∙ p.2))

-- of a file, by what it holds
by : (s : List ℕ) (h : Option Layout) → h ≡ house_of s
    → (let o = outcome_for s h 1024 256 in Form (cond (eqb o.fit.number 43) malformed_text (read_line o.read o.kept ++ rest_text o.fit (settings_for s h) (kept_for s h))))
unfolding refused_with
by s None e = malformed
by s (Some h) e =
    let v = h.settings in
    let n = h.count in
    let qs = records_at s v n in
    cond_ind Form (eqb (quotes_outcome (tau_of s v) (config_of s v) qs 1024 256).fit.number 43) malformed
    (quotes_form (tau_of s v) (config_of s v) qs (omega (arith, quotes_length s (20 + 88 * v) n, (file_is s v n e).1)))

pub one_of_the_forms : (s : List ℕ) → Form (answer_of s)
unfolding answer_of behind_read file_outcome settings_of kept_of
one_of_the_forms s = by s (house_of s) refl
