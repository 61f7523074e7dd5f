-- From the answers of the parts to the outcome. Assumes nothing.
use Prim.Native.Nat.{ℕ, ◌+◌, ◌*◌, ◌-◌}
use mathlib.Core.Path.{◌≡◌, sym, ap, ◌∙◌}
use mathlib.Core.List.{List, map}
use native.Mathlib.Omega.{arith}
use lib.ListN.{length, take, drop, length-drop}
use lib.Seq.{take_all}
use lib.Ieee.{Float}
use Rattle.std.specs.Prelude.{Option, None}
use Rattle.laws.specs.Room.{written}
use Rattle.laws.proofs.Choices.{number_no, number_goes}
use Rattle.laws.proofs.Rooms as rooms
use Rattle.records.specs.declared.FitConfig.{FitConfig}
use Rattle.records.specs.declared.FitAnswer.{FitAnswer}
use Rattle.records.specs.Answer.{refused_with}
use Rattle.calibrate.specs.Fit.{Fitted}
use Rattle.house.specs.declared.Layout.{Layout}
use Rattle.house.specs.declared.Quote.{Quote}
use Rattle.house.specs.File.{File, house_of, tau_of, config_of, records_at, records_of}
use Rattle.house.specs.Check.{k_of, w_of, weight_of}
use Rattle.house.specs.Repeats.{kept}
use Rattle.house.specs.Taken.{intake_number, kept_of}
use Rattle.house.proofs.Files.{file_is, records_drop}
use Rattle.house.proofs.Taking.{kept_file}
use Rattle.outcome.specs.Outcome.{OutcomeAnswer, outcome_with, refused_at, fit_for, quotes_outcome, outcome_for, file_outcome, settings_for, settings_of, residuals_for, capped_for}

-- a refusal before the fit writes nothing
pub none_written : {A : Type 0} (o : OutcomeAnswer) (number read : ℕ) (list before : List A) → o ≡ refused_at number read → (number ≡ 0 → ⊥) → before ≡ written o.fit.number list before
unfolding refused_with
none_written o number read list before e h = rooms.kept o.fit.number list before (λ z. h (sym (ap (λ (x : OutcomeAnswer). x.fit.number) e) ∙ z))

module _ (tau : Float) (config : FitConfig) (qs : List Quote) (room slots : ℕ) (r : ℕ) (e : r ≡ intake_number config qs room slots) where
  pub refused_is : (r ≡ 0 → ⊥) → refused_at r (length qs) ≡ quotes_outcome tau config qs room slots
  unfolding quotes_outcome
  refused_is h = number_no _ (λ (r : ℕ). refused_at r (length qs)) e h

  pub fitted_is : r ≡ 0 → (a : FitAnswer) → a ≡ fit_for tau config (kept qs) room slots → outcome_with (length qs) (length (kept qs)) a ≡ quotes_outcome tau config qs room slots
  unfolding quotes_outcome
  fitted_is z a f = number_goes _ e z (ap (outcome_with (length qs) (length (kept qs))) f)

-- the fit of what the columns took
pub comes_to :
    (tau : Float) (config : FitConfig) (qs : List Quote) (o : List Float) (p : List ℕ) (a : FitAnswer) (o' : List Float) (p' : List ℕ) (number n m : ℕ) (ks ws weights : List Float)
    → number ≡ intake_number config qs (length o) (length p) → number ≡ 0
    → length qs ≡ n → m ≡ length (kept qs) → ks ≡ map k_of (kept qs) → ws ≡ map w_of (kept qs) → weights ≡ map weight_of (kept qs)
    → Fitted tau config ks ws weights o p a o' p'
    → (outcome_with n m a ≡ quotes_outcome tau config qs (length o) (length p))
    × ((o' ≡ written a.number (residuals_for a.slice (kept qs)) o) × (p' ≡ written a.number (capped_for config (kept qs)) p))
comes_to tau config qs o p a o' p' number n m ks ws weights e z en em ek ew et f =
    let g : Fitted tau config (map k_of (kept qs)) (map w_of (kept qs)) (map weight_of (kept qs)) o p a o' p' = rw (ek, ew, et) at f in
    (rw (← en, em) (fitted_is tau config qs (length o) (length p) number e z a g.answer), (g.left, g.listed))

-- ---- of a file

module _ (s : List ℕ) (room slots : ℕ) where
  pub for_house : (h : Option Layout) → h ≡ house_of s → outcome_for s h room slots ≡ file_outcome s room slots
  unfolding file_outcome
  for_house h e = ap (λ (h : Option Layout). outcome_for s h room slots) e

  pub malformed_is : None ≡ house_of s → refused_at 43 0 ≡ file_outcome s room slots
  malformed_is e = for_house None e

pub settings_file : (s : List ℕ) (v n : ℕ) → File v n ≡ house_of s → config_of s v ≡ settings_of s
unfolding settings_of
settings_file s v n e = ap (settings_for s) e

-- what stands behind a file's counts, as the code cuts it out
pub part_is : (s : List ℕ) (from : ℕ) → take (length s - from) (drop from s) ≡ drop from s
part_is s from = take_all (length s - from) (drop from s) (omega (arith, length-drop from s))

-- it comes to what the file comes to
pub of_the_file :
    (s part : List ℕ) (v n : ℕ) → File v n ≡ house_of s → part ≡ drop (20 + 88 * v) s
    → (tau : Float) (config : FitConfig) (o : List Float) (p : List ℕ) (r : OutcomeAnswer) (o' : List Float) (p' : List ℕ) → tau ≡ tau_of s v → config ≡ config_of s v
    → (r ≡ quotes_outcome tau config (records_of part) (length o) (length p))
    × ((o' ≡ written r.fit.number (residuals_for r.fit.slice (kept (records_of part))) o) × (p' ≡ written r.fit.number (capped_for config (kept (records_of part))) p))
    → (r ≡ file_outcome s (length o) (length p))
    × ((o' ≡ written r.fit.number (residuals_for r.fit.slice (kept_of s)) o) × (p' ≡ written r.fit.number (capped_for (settings_of s) (kept_of s)) p))
of_the_file s part v n e cut tau config o p r o' p' x y h =
    let q : records_of part ≡ records_at s v n = ap (λ (b : List ℕ). records_of b) cut ∙ records_drop s v n (file_is s v n e).2 in
    let k : kept (records_of part) ≡ kept_of s = ap kept q ∙ kept_file s v n e in
    let c : config ≡ settings_of s = y ∙ settings_file s v n e in (
      h.0
          ∙ ap (λ (t : Float). quotes_outcome t config (records_of part) (length o) (length p)) x
          ∙ ap (λ (c : FitConfig). quotes_outcome (tau_of s v) c (records_of part) (length o) (length p)) y
          ∙ ap (λ (qs : List Quote). quotes_outcome (tau_of s v) (config_of s v) qs (length o) (length p)) q
          ∙ for_house s (length o) (length p) (File v n) e,
      (
        h.1.0 ∙ ap (λ (qs : List Quote). written r.fit.number (residuals_for r.fit.slice qs) o) k,
        h.1.1 ∙ ap (λ (qs : List Quote). written r.fit.number (capped_for config qs) p) k ∙ ap (λ (c : FitConfig). written r.fit.number (capped_for c (kept_of s)) p) c,
      ),
    )
