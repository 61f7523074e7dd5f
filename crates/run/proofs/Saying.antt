-- From the outcome to the text. Assumes nothing.
use Prim.Native.Nat.{ℕ, ◌*◌, ◌≤◌}
use mathlib.Core.Path.{◌≡◌, refl, sym, ap, ◌∙◌}
use mathlib.Core.Bool.{true, ◌&&◌}
use mathlib.Core.List.{List, ◌++◌, map}
use native.Mathlib.Omega.{arith}
use lib.Dec.{leb}
use lib.ListN.{length, length-map}
use lib.Ieee.{Float}
use borrow.Author.Tests.{eq-eqb, ne_eqb, le-leb}
use Rattle.laws.specs.Room.{written}
use Rattle.laws.proofs.Choices.{if_true, if_false, number_stops, number_goes}
use Rattle.records.specs.declared.FitAnswer.{FitAnswer}
use Rattle.records.specs.Answer.{answer_in}
use Rattle.house.specs.Check.{k_of, w_of, weight_of}
use Rattle.house.specs.Taken.{kept_of}
use Rattle.outcome.specs.declared.Outcome.{Outcome}
use Rattle.outcome.specs.Outcome.{OutcomeAnswer, outcome_in, outcome_with, file_outcome, settings_of, residuals_for, capped_for}
use Rattle.outcome.proofs.Fits.{residuals_long, capped_short, file_counts}
use Rattle.text.specs.Lines.{read_line}
use Rattle.text.specs.Place.{placed, longest}
use Rattle.text.specs.Answers.{malformed_text, refused_text, accepted_text}
use Rattle.text.proofs.Answering.{accepted_full}
use Rattle.run.specs.Answer.{rest_text, behind_read, answer_of}

-- a text: its length, where it is placed, and that it is not long
pub said : {r : ℕ} {o' : List ℕ} (o t u : List ℕ) (n : ℕ) → n ≤ longest → t ≡ u → (r ≡ length t) × ((o' ≡ placed t o) × (r ≤ n)) → (r ≡ length u) × ((o' ≡ placed u o) × (r ≤ longest))
said o t u n l e h = (h.0 ∙ ap length e, (h.1.0 ∙ ap (λ (x : List ℕ). placed x o) e, omega (arith, l, h.1.1)))

module _ (s : List ℕ) (o : OutcomeAnswer) (e : o ≡ file_outcome s 1024 256) where
  behind : rest_text o.fit (settings_of s) (kept_of s) ≡ behind_read s
  unfolding behind_read
  behind = ap (λ (o : OutcomeAnswer). rest_text o.fit (settings_of s) (kept_of s)) e

  pub says_malformed : o.fit.number ≡ 43 → malformed_text ≡ answer_of s
  unfolding answer_of
  says_malformed h = rw (← e) (if_true _ (eq-eqb o.fit.number 43 h) refl)

  -- any other text is the `read` line and the rest
  says : (rest : List ℕ) → (o.fit.number ≡ 43 → ⊥) → rest ≡ rest_text o.fit (settings_of s) (kept_of s) → read_line o.read o.kept ++ rest ≡ answer_of s
  unfolding answer_of
  says rest h f = rw (← e) (if_false _ (ne_eqb o.fit.number 43 h) (ap (λ (t : List ℕ). read_line o.read o.kept ++ t) (f ∙ behind)))

  pub says_refused : (o.fit.number ≡ 43 → ⊥) → (o.fit.number ≡ 0 → ⊥) → refused_text o.read o.kept o.fit ≡ answer_of s
  unfolding refused_text rest_text
  says_refused h k = says _ h (number_stops _ refl k refl)

  module _ (z : o.fit.number ≡ 0) where
    few : length (kept_of s) ≤ 256
    few = (file_counts s 1024 256 o e z).1

    pub rows_are : o.kept * 4 ≡ length (residuals_for o.fit.slice (kept_of s))
    rows_are = omega (arith, (file_counts s 1024 256 o e z).0, length-map (kept_of s) k_of, residuals_long o.fit.slice (map k_of (kept_of s)) (map w_of (kept_of s)))

    pub capped_are : o.fit.capped ≡ length (capped_for (settings_of s) (kept_of s))
    capped_are = (file_counts s 1024 256 o e z).2

    rows_few : length (residuals_for o.fit.slice (kept_of s)) ≤ 1024
    rows_few = omega (arith, few, length-map (kept_of s) k_of, residuals_long o.fit.slice (map k_of (kept_of s)) (map w_of (kept_of s)))

    pub capped_few : length (capped_for (settings_of s) (kept_of s)) ≤ 256
    capped_few = omega (arith, few, length-map (kept_of s) weight_of, capped_short (settings_of s).max_weight_ratio (map weight_of (kept_of s)))

    pub says_accepted :
        (residuals : List Float) (capped : List ℕ) → residuals ≡ residuals_for o.fit.slice (kept_of s) → capped ≡ capped_for (settings_of s) (kept_of s)
        → accepted_text o.read o.kept o.fit residuals capped ≡ answer_of s
    unfolding rest_text
    says_accepted residuals capped p q =
        let rs = residuals_for o.fit.slice (kept_of s) in
        let cs = capped_for (settings_of s) (kept_of s) in
        let sized : (leb (length rs) 1024 && leb (length cs) 256) ≡ true = rw (le-leb (length rs) 1024 rows_few, le-leb (length cs) 256 capped_few) in
        ap (λ (r : List Float). accepted_text o.read o.kept o.fit r capped) p
        ∙ ap (accepted_text o.read o.kept o.fit rs) q
        ∙ accepted_full o.read o.kept o.fit rs cs sized
        ∙ says _ (λ h. omega (arith, h, z)) (number_goes _ refl z refl)

-- ---- what the code hands back, as it is told

abbrev pub told_as : Outcome → FitAnswer → OutcomeAnswer
told_as o a = outcome_with o.read o.kept a

pub told_is : (s : List ℕ) (o : Outcome) {a : FitAnswer} → a ≡ answer_in o.fit → outcome_in o ≡ file_outcome s 1024 256 → told_as o a ≡ file_outcome s 1024 256
told_is s o t e = ap (told_as o) t ∙ e

-- what it leaves in the buffers
pub residuals_told :
    (s : List ℕ) (o : Outcome) {a : FitAnswer} {after : List Float} → a ≡ answer_in o.fit → (before : List Float)
    → after ≡ written (outcome_in o).fit.number (residuals_for (outcome_in o).fit.slice (kept_of s)) before → after ≡ written a.number (residuals_for a.slice (kept_of s)) before
residuals_told s o t before e = e ∙ sym (ap (λ (b : FitAnswer). written b.number (residuals_for b.slice (kept_of s)) before) t)

pub capped_told :
    (s : List ℕ) (o : Outcome) {a : FitAnswer} {after : List ℕ} → a ≡ answer_in o.fit → (before : List ℕ)
    → after ≡ written (outcome_in o).fit.number (capped_for (settings_of s) (kept_of s)) before → after ≡ written a.number (capped_for (settings_of s) (kept_of s)) before
capped_told s o t before e = e ∙ sym (ap (λ (b : FitAnswer). written b.number (capped_for (settings_of s) (kept_of s)) before) t)
