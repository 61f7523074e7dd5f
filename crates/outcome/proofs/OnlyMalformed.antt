-- 43 is the number of a malformed file and of nothing else.
use Prim.Native.Nat.{ℕ, ◌*◌, ◌<◌}
use mathlib.Core.Path.{◌≡◌, refl, sym, subst}
use mathlib.Core.Bool.{◌&&◌}
use mathlib.Core.List.{List, map}
use native.Mathlib.Omega.{arith}
use lib.Dec.{eqb, leb}
use lib.ListN.{length}
use lib.Ieee.{Float}
use Rattle.std.specs.Prelude.{Option, None, Some}
use Rattle.laws.specs.Floats.{positive}
use Rattle.laws.proofs.Choices.{cond_ind}
use Rattle.slice.specs.Slice.{number_of}
use Rattle.weights.specs.Weights.{scaled_of, all_good}
use Rattle.records.specs.declared.FitConfig.{FitConfig}
use Rattle.records.specs.Settings.{settings_hold, sizes_hold}
use Rattle.records.specs.Answer.{refused_with}
use Rattle.entry.specs.Entry.{lengths_hold, columns_pass, range_of, span_of, checks_number, entry_number}
use Rattle.moves.specs.Moves.{is_refused}
use Rattle.judge.specs.Judge.{sums_of, params_hold, rmse_of, rmse_holds}
use Rattle.calibrate.specs.Fit.{a_max_for, scaled_for, fit_search, slice_from, fit_of}
use Rattle.calibrate.proofs.EachNumber.{late_number, answer_number}
use Rattle.house.specs.declared.Layout.{Layout}
use Rattle.house.specs.declared.Quote.{Quote}
use Rattle.house.specs.File.{house_of, tau_of, config_of, records_at}
use Rattle.house.specs.Check.{k_of, w_of, weight_of, all_pass}
use Rattle.house.specs.Repeats.{all_agree, kept}
use Rattle.house.specs.Taken.{intake_number}
use Rattle.outcome.specs.Outcome.{OutcomeAnswer, quotes_outcome, outcome_for, file_outcome}

-- ---- the fit's own numbers are below 43

abbrev Below : ℕ → Type 0
Below n = n < 43

module _ (tau : Float) (c : FitConfig) (ks ws weights : List Float) where
  late_below : (us : List Float) → Below (late_number tau c ks ws us)
  unfolding late_number
  late_below us =
      let f = fit_search c ks ws us in
      let x = slice_from tau c (range_of ks) (a_max_for c ws) f.found in
      let t = sums_of x ks ws us in
      cond_ind Below (is_refused f) (omega arith)
      (cond_ind Below f.found.on_edge (omega arith)
      (cond_ind Below (eqb (number_of x) 0)
      (cond_ind Below (params_hold c (a_max_for c ws) f.found.cell.objective t)
      (cond_ind Below (rmse_holds c (rmse_of t (length ks))) (omega arith) (omega arith))
      (omega arith))
      (omega arith)))

  module _ (room slots : ℕ) where
    checks_below : Below (checks_number tau c ks ws weights room slots)
    unfolding checks_number
    checks_below =
        cond_ind Below (lengths_hold ks ws weights room slots)
        (cond_ind Below (sizes_hold (length ks) c)
        (cond_ind Below (columns_pass ks ws weights)
        (cond_ind Below (settings_hold c)
        (cond_ind Below (positive tau)
        (cond_ind Below (leb c.min_observations (length ks))
        (cond_ind Below (positive (span_of ks)) (omega arith) (omega arith))
        (omega arith))
        (omega arith))
        (omega arith))
        (omega arith))
        (omega arith))
        (omega arith)

    entry_below : Below (entry_number tau c ks ws weights room slots)
    unfolding entry_number
    entry_below =
        cond_ind Below (eqb (checks_number tau c ks ws weights room slots) 0)
        (cond_ind Below (all_good (scaled_of c.max_weight_ratio weights)) (omega arith) (omega arith))
        checks_below

    pub fit_below : (fit_of tau c ks ws weights room slots).number < 43
    fit_below =
        subst Below (sym (answer_number tau c ks ws weights room slots))
        (cond_ind Below (eqb (entry_number tau c ks ws weights room slots) 0) (late_below (scaled_for c weights)) entry_below)

-- ---- 43

abbrev Other : ℕ → Type 0
Other n = n ≡ 43 → ⊥

intake_other : (config : FitConfig) (qs : List Quote) (room slots : ℕ) → Other (intake_number config qs room slots)
unfolding intake_number
intake_other config qs room slots =
    cond_ind Other (leb (length qs * 4) room && leb (length qs) slots)
    (cond_ind Other (sizes_hold (length qs) config)
    (cond_ind Other (all_pass qs)
    (cond_ind Other (all_agree qs) (λ h. omega arith) (λ h. omega arith))
    (λ h. omega arith))
    (λ h. omega arith))
    (λ h. omega arith)

pub quotes_other : (tau : Float) (config : FitConfig) (qs : List Quote) (room slots : ℕ) → (quotes_outcome tau config qs room slots).fit.number ≡ 43 → ⊥
unfolding quotes_outcome refused_with
quotes_other tau config qs room slots =
    cond_ind (λ (o : OutcomeAnswer). Other o.fit.number) (eqb (intake_number config qs room slots) 0)
    (λ h. omega (arith, h, fit_below tau config (map k_of (kept qs)) (map w_of (kept qs)) (map weight_of (kept qs)) room slots))
    (intake_other config qs room slots)

pub only_malformed : (s : List ℕ) (room slots : ℕ) → (file_outcome s room slots).fit.number ≡ 43 → house_of s ≡ None
unfolding file_outcome
only_malformed s room slots = by (house_of s)
  where
    by : (h : Option Layout) → (outcome_for s h room slots).fit.number ≡ 43 → h ≡ None
    by None e = refl
    by (Some h) e = absurd (quotes_other (tau_of s h.settings) (config_of s h.settings) (records_at s h.settings h.count) room slots e)
