-- A file with repeats comes to what the file that holds only the first of each record comes to, but for the counts read and kept.
use Prim.Native.Nat.{ℕ, ◌+◌, ◌*◌, ◌≤◌}
use mathlib.Core.Path.{◌≡◌, refl, sym, ap, ◌∙◌}
use mathlib.Core.Bool.{Bool, true, false}
use mathlib.Core.List.{List}
use native.Mathlib.Omega.{arith}
use lib.Dec.{eqb}
use lib.ListN.{length}
use lib.Ieee.{Float}
use Rattle.laws.specs.Choice.{unless}
use Rattle.records.specs.declared.FitConfig.{FitConfig}
use Rattle.house.specs.declared.Quote.{Quote}
use Rattle.house.specs.File.{File, house_of, tau_of, config_of, records_at}
use Rattle.house.specs.Repeats.{kept}
use Rattle.house.specs.Taken.{intake_number}
use Rattle.house.specs.Encode.{Bytes, once_of}
use Rattle.house.proofs.Files.{file_is, quotes_length}
use Rattle.house.proofs.Once.{kept_once, kept_intake}
use Rattle.house.proofs.OnceRead.{once_house, once_records, once_tau, once_config}
use Rattle.outcome.specs.Outcome.{OutcomeAnswer, outcome_with, refused_at, fit_for, quotes_outcome, file_outcome}
use Rattle.outcome.proofs.Coming.{for_house}

-- at most 256 quotes, with room for all of them
pub quotes_once :
    (tau : Float) (config : FitConfig) (qs : List Quote) (room slots : ℕ) → length qs ≤ 256 → length qs * 4 ≤ room → length qs ≤ slots
    → quotes_outcome tau config (kept qs) room slots ≡ outcome_with (length (kept qs)) (length (kept qs)) (quotes_outcome tau config qs room slots).fit
unfolding quotes_outcome
quotes_once tau config qs room slots l h k =
    rw (kept_intake config qs room slots l h k, kept_once qs) (by (intake_number config qs room slots) (eqb (intake_number config qs room slots) 0))
  where
    m : ℕ
    m = length (kept qs)

    by : (r : ℕ) (b : Bool)
        → unless b (refused_at r m) (outcome_with m m (fit_for tau config (kept qs) room slots))
        ≡ outcome_with m m (unless b (refused_at r (length qs)) (outcome_with (length qs) m (fit_for tau config (kept qs) room slots))).fit
    by r true = refl
    by r false = refl

-- a well-formed file s, with v settings records and n observations, and room for all of these
module _ (s : List ℕ) (b : Bytes s) (v n : ℕ) (e : File v n ≡ house_of s) (room slots : ℕ) (h : n * 4 ≤ room) (k : n ≤ slots) where
  abbrev all : List Quote
  all = records_at s v n

  pub repeats_do_not_count :
      file_outcome (once_of s) room slots
      ≡ outcome_with (length (kept (records_at s v n))) (length (kept (records_at s v n))) (file_outcome s room slots).fit
  repeats_do_not_count =
      let count = quotes_length s (20 + 88 * v) n in
      let l = (file_is s v n e).1 in
      let m = length (kept all) in
      let read : quotes_outcome (tau_of (once_of s) v) (config_of (once_of s) v) (records_at (once_of s) v m) room slots ≡ quotes_outcome (tau_of s v) (config_of s v) (kept all) room slots =
      rw (once_tau s b v n e, once_config s b v n e, once_records s b v n e) in
      sym (for_house (once_of s) room slots (File v m) (sym (once_house s b v n e)))
      ∙ read
      ∙ quotes_once (tau_of s v) (config_of s v) all room slots (omega arith) (omega arith) (omega arith)
      ∙ ap (λ (o : OutcomeAnswer). outcome_with m m o.fit) (for_house s room slots (File v n) e)
