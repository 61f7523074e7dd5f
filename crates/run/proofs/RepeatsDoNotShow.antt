-- A file with repeats prints, after its `read` line, what the file that holds only the first of each record prints after its own.
use Prim.Native.Nat.{ℕ}
use mathlib.Core.Path.{◌≡◌, sym, ap, ◌∙◌}
use mathlib.Core.List.{List, ◌++◌}
use native.Mathlib.Omega.{arith}
use lib.ListN.{length}
use Rattle.records.specs.declared.FitConfig.{FitConfig}
use Rattle.house.specs.File.{File, house_of, records_at}
use Rattle.house.specs.Repeats.{kept}
use Rattle.house.specs.Taken.{kept_of}
use Rattle.house.specs.Encode.{Bytes, once_of}
use Rattle.house.proofs.Files.{file_is}
use Rattle.house.proofs.OnceRead.{once_house, once_kept, once_config}
use Rattle.outcome.specs.Outcome.{OutcomeAnswer, outcome_with, file_outcome, settings_of}
use Rattle.outcome.proofs.Coming.{settings_file}
use Rattle.outcome.proofs.RepeatsDoNotCount.{repeats_do_not_count}
use Rattle.text.specs.Lines.{read_line}
use Rattle.run.specs.Answer.{rest_text, behind_read, answer_of}
use Rattle.run.proofs.ReadAndKept.{answer_is}

module _ (s : List ℕ) (b : Bytes s) (v n : ℕ) (e : File v n ≡ house_of s) where
  abbrev m : ℕ
  m = length (kept (records_at s v n))

  -- what it comes to, by the theorem of outcomes
  once : file_outcome (once_of s) 1024 256 ≡ outcome_with m m (file_outcome s 1024 256).fit
  once =
      let l = (file_is s v n e).1 in
      repeats_do_not_count s b v n e 1024 256 (omega arith) (omega arith)

  settings_same : settings_of (once_of s) ≡ settings_of s
  settings_same = sym (settings_file (once_of s) v m (sym (once_house s b v n e))) ∙ once_config s b v n e ∙ settings_file s v n e

  rest_same : behind_read (once_of s) ≡ behind_read s
  unfolding behind_read
  rest_same =
      ap (λ (o : OutcomeAnswer). rest_text o.fit (settings_of (once_of s)) (kept_of (once_of s))) once
      ∙ ap (λ (c : FitConfig). rest_text (file_outcome s 1024 256).fit c (kept_of (once_of s))) settings_same
      ∙ ap (rest_text (file_outcome s 1024 256).fit (settings_of s)) (once_kept s b v n e)

  -- the file itself, and the one with only the first of each of its records
  pub repeats_do_not_show :
      (answer_of s ≡ read_line n (file_outcome s 1024 256).kept ++ behind_read s)
      × (answer_of (once_of s) ≡ read_line (length (kept (records_at s v n))) (length (kept (records_at s v n))) ++ behind_read s)
  repeats_do_not_show = (
    answer_is s v n e,
    answer_is (once_of s) v m (sym (once_house s b v n e))
        ∙ ap (λ (k : ℕ). read_line m k ++ behind_read (once_of s)) (ap (λ (o : OutcomeAnswer). o.kept) once)
        ∙ ap (λ (t : List ℕ). read_line m m ++ t) rest_same,
  )
