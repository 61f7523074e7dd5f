-- The first line of an answer, `read R kept K`: K is R where the file is refused before repeats are dropped, else the number of records kept, and never more than R. Assumes nothing.
use Prim.Native.Nat.{ℕ, ◌+◌, ◌*◌, ◌≤◌}
use mathlib.Core.Path.{◌≡◌, refl, sym, ap, ◌∙◌}
use mathlib.Core.Bool.{true, false, cond}
use mathlib.Core.List.{List, ◌++◌}
use native.Mathlib.Omega.{arith}
use lib.Dec.{eqb}
use lib.ListN.{length}
use borrow.Author.Tests.{le-leb, ne_eqb}
use Rattle.std.specs.Prelude.{None}
use Rattle.laws.proofs.Choices.{cond_ind, if_false}
use Rattle.records.specs.Settings.{sizes_hold}
use Rattle.records.specs.Answer.{refused_with}
use Rattle.house.specs.File.{File, house_of, tau_of, config_of, records_at}
use Rattle.house.specs.Check.{all_pass}
use Rattle.house.specs.Repeats.{all_agree, kept}
use Rattle.house.specs.Taken.{intake_number, kept_of}
use Rattle.house.proofs.Files.{file_is, quotes_length}
use Rattle.house.proofs.Once.{kept_short}
use Rattle.outcome.specs.Outcome.{OutcomeAnswer, refused_at, fit_for, quotes_outcome, file_outcome, settings_of}
use Rattle.outcome.proofs.Coming.{refused_is, fitted_is, for_house, malformed_is}
use Rattle.outcome.proofs.OnlyMalformed.{quotes_other}
use Rattle.text.specs.Lines.{read_line, refused_line}
use Rattle.text.specs.Answers.{malformed_text, refused_of, refusal_text}
use Rattle.run.specs.Answer.{rest_text, behind_read, answer_of}

-- the answer that an outcome gives
answer_from : (s : List ℕ) (o : OutcomeAnswer) → o ≡ file_outcome s 1024 256
    → cond (eqb o.fit.number 43) malformed_text (read_line o.read o.kept ++ rest_text o.fit (settings_of s) (kept_of s)) ≡ answer_of s
unfolding answer_of behind_read
answer_from s o e = ap (λ (o : OutcomeAnswer). cond (eqb o.fit.number 43) malformed_text (read_line o.read o.kept ++ rest_text o.fit (settings_of s) (kept_of s))) e

-- a malformed file has no such line
pub malformed_answer : (s : List ℕ) → None ≡ house_of s → answer_of s ≡ refused_line 43 0 0
unfolding refused_with
malformed_answer s e = sym (answer_from s (refused_at 43 0) (malformed_is s 1024 256 e))

-- a well-formed file s, with v settings records and n observations
module _ (s : List ℕ) (v n : ℕ) (e : File v n ≡ house_of s) where
  -- what it comes to
  file_outcome_lem : quotes_outcome (tau_of s v) (config_of s v) (records_at s v n) 1024 256 ≡ file_outcome s 1024 256
  file_outcome_lem = for_house s 1024 256 (File v n) e

  count : length (records_at s v n) ≡ n
  count = quotes_length s (20 + 88 * v) n

  within : n ≤ 256
  within = (file_is s v n e).1

  read_is : (file_outcome s 1024 256).read ≡ n
  unfolding quotes_outcome
  read_is = sym (ap (λ (o : OutcomeAnswer). o.read) file_outcome_lem) ∙ cond_ind (λ (o : OutcomeAnswer). o.read ≡ n) (eqb (intake_number (config_of s v) (records_at s v n) 1024 256) 0) count count

  -- its `read` line and the rest
  pub answer_is : answer_of s ≡ read_line n (file_outcome s 1024 256).kept ++ behind_read s
  unfolding answer_of
  answer_is =
      sym (if_false malformed_text (ne_eqb (file_outcome s 1024 256).fit.number 43 (λ z. quotes_other (tau_of s v) (config_of s v) (records_at s v n) 1024 256 (ap (λ (o : OutcomeAnswer). o.fit.number) file_outcome_lem ∙ z))) refl)
      ∙ ap (λ (r : ℕ). read_line r (file_outcome s 1024 256).kept ++ behind_read s) read_is

  -- refused before dropping
  early : (r : ℕ) → intake_number (config_of s v) (records_at s v n) 1024 256 ≡ r → (r ≡ 0 → ⊥) → refused_at r n ≡ file_outcome s 1024 256
  early r h k = ap (refused_at r) (sym count) ∙ refused_is (tau_of s v) (config_of s v) (records_at s v n) 1024 256 r (sym h) k ∙ file_outcome_lem

  -- there is room for 256 records
  module _ (sizes : sizes_hold n (config_of s v) ≡ true) where
    number_10 : all_pass (records_at s v n) ≡ false → intake_number (config_of s v) (records_at s v n) 1024 256 ≡ 10
    unfolding intake_number
    number_10 k = rw (count, le-leb (n * 4) 1024 (omega (arith, within)), le-leb n 256 within, sizes, k) refl

    module _ (pass : all_pass (records_at s v n) ≡ true) where
      number_44 : all_agree (records_at s v n) ≡ false → intake_number (config_of s v) (records_at s v n) 1024 256 ≡ 44
      unfolding intake_number
      number_44 k = rw (count, le-leb (n * 4) 1024 (omega (arith, within)), le-leb n 256 within, sizes, pass, k) refl

      number_0 : all_agree (records_at s v n) ≡ true → intake_number (config_of s v) (records_at s v n) 1024 256 ≡ 0
      unfolding intake_number
      number_0 k = rw (count, le-leb (n * 4) 1024 (omega (arith, within)), le-leb n 256 within, sizes, pass, k) refl

  number_11 : sizes_hold n (config_of s v) ≡ false → intake_number (config_of s v) (records_at s v n) 1024 256 ≡ 11
  unfolding intake_number
  number_11 h = rw (count, le-leb (n * 4) 1024 (omega (arith, within)), le-leb n 256 within, h) refl

  -- settings over a size: the whole answer is `read n kept n` and `refused 11 0 0`
  pub over_a_size : sizes_hold n (config_of s v) ≡ false → answer_of s ≡ read_line n n ++ refused_line 11 0 0
  unfolding rest_text refusal_text refused_of refused_with
  over_a_size h = sym (answer_from s (refused_at 11 n) (early 11 (number_11 h) (λ z. omega arith)))

  -- no size is exceeded, and an observation fails check 10: the whole answer is `read n kept n` and `refused 10 0 0`
  pub bad_observation : sizes_hold n (config_of s v) ≡ true → all_pass (records_at s v n) ≡ false → answer_of s ≡ read_line n n ++ refused_line 10 0 0
  unfolding rest_text refusal_text refused_of refused_with
  bad_observation h k = sym (answer_from s (refused_at 10 n) (early 10 (number_10 h k) (λ z. omega arith)))

  -- neither, and one number has two contents: the whole answer is `read n kept n` and `refused 44 0 0`
  pub two_contents : sizes_hold n (config_of s v) ≡ true → all_pass (records_at s v n) ≡ true → all_agree (records_at s v n) ≡ false → answer_of s ≡ read_line n n ++ refused_line 44 0 0
  unfolding rest_text refusal_text refused_of refused_with
  two_contents h k a = sym (answer_from s (refused_at 44 n) (early 44 (number_44 h k a) (λ z. omega arith)))

  -- none of these: the first line has the number of records that are kept once repeats are dropped
  pub kept_after_dropping :
      sizes_hold n (config_of s v) ≡ true → all_pass (records_at s v n) ≡ true → all_agree (records_at s v n) ≡ true
      → (rest : List ℕ) × (answer_of s ≡ read_line n (length (kept (records_at s v n))) ++ rest)
  kept_after_dropping h k a =
      let o = fitted_is (tau_of s v) (config_of s v) (records_at s v n) 1024 256 0 (sym (number_0 h k a)) refl (fit_for (tau_of s v) (config_of s v) (kept (records_at s v n)) 1024 256) refl ∙ file_outcome_lem in
      (behind_read s, answer_is ∙ ap (λ (m : ℕ). read_line n m ++ behind_read s) (sym (ap (λ (o : OutcomeAnswer). o.kept) o)))

  -- in any case the first line is `read n kept m`, where m is at most n
  pub first_line : (m : ℕ) × (rest : List ℕ) × (answer_of s ≡ read_line n m ++ rest) × (m ≤ n)
  unfolding quotes_outcome
  first_line =
      let few = kept_short (records_at s v n) in
      let most : (quotes_outcome (tau_of s v) (config_of s v) (records_at s v n) 1024 256).kept ≤ n =
      cond_ind (λ (o : OutcomeAnswer). o.kept ≤ n) (eqb (intake_number (config_of s v) (records_at s v n) 1024 256) 0) (omega (arith, few, count)) (omega (arith, count)) in
      ((file_outcome s 1024 256).kept, behind_read s, answer_is, omega (arith, most, ap (λ (o : OutcomeAnswer). o.kept) file_outcome_lem))
