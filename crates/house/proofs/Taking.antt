-- The number that refuses records, and what is taken of them, by the counts that the code makes; what is known where nothing refuses. Assumes nothing.
use Prim.Native.Nat.{ℕ, ◌*◌, ◌/◌, ◌≤◌}
use mathlib.Core.Path.{◌≡◌, sym, ap, ◌∙◌}
use mathlib.Core.Bool.{Bool, true, ◌&&◌}
use mathlib.Core.List.{List, [], map}
use native.Mathlib.Omega.{arith}
use lib.ListN.{length, length-map}
use lib.Dec.{leb}
use lib.Ieee.{Float}
use borrow.Author.Tests.{leb-true, le-leb}
use Rattle.laws.specs.Choice.{unless}
use Rattle.laws.specs.Room.{at_front}
use Rattle.laws.proofs.Choices.{both, passed_one}
use Rattle.records.specs.declared.FitConfig.{FitConfig}
use Rattle.records.specs.Settings.{sizes_hold}
use Rattle.house.specs.declared.Quote.{Quote}
use Rattle.house.specs.File.{File, house_of, quote_of, records_at, records_of}
use Rattle.house.specs.Check.{all_pass}
use Rattle.house.specs.Repeats.{all_agree, kept}
use Rattle.house.specs.Taken.{intake_number, taken_of, kept_for, kept_of}
use Rattle.std.specs.Simd.{first_chunks}
use Rattle.house.proofs.Files.{records_cut}

-- what the tests of some records come to, of those that were cut out of bytes
module _ (s : List ℕ) (sent : List (List ℕ)) (e : sent ≡ first_chunks 32 (length s / 32) s) where
  cut : map quote_of sent ≡ records_of s
  cut = ap (map quote_of) e ∙ records_cut s

  pub intake_is :
      (config : FitConfig) (room slots : ℕ)
      → unless (leb (length sent * 4) room && leb (length sent) slots) 12 (unless (sizes_hold (length sent) config) 11 (unless (all_pass (map quote_of sent)) 10 (unless (all_agree (map quote_of sent)) 44 0))) ≡ intake_number config (records_of s) room slots
  unfolding intake_number
  intake_is config room slots = rw (← cut, length-map)

  pub taken_is : (a b c : ℕ) → unless (leb (length sent) a && leb (length sent) b && leb (length sent) c) [] (kept (map quote_of sent)) ≡ taken_of (records_of s) a b c
  unfolding taken_of
  taken_is a b c = rw (← cut, length-map)

-- each column has room for n values where the code's test says so
pub columns_room : (n a b c : ℕ) {r : Bool} → r ≡ (leb n a && leb n b && leb n c) → r ≡ true → (n ≤ a) × (n ≤ b) × (n ≤ c)
columns_room n a b c e h =
    let p = both (leb n a && leb n b) (leb n c) (sym e ∙ h) in
    let q = both (leb n a) (leb n b) p.0 in
    (leb-true n a q.0, leb-true n b q.1, leb-true n c p.1)

-- a column: nothing taken, or what was kept
pub column_none : (f : Quote → Float) (qs : List Quote) (before : List Float) → [] ≡ qs → before ≡ at_front (map f qs) before
column_none f qs before e = ap (λ (qs : List Quote). at_front (map f qs) before) e

pub column_took : (f : Quote → Float) (all qs : List Quote) (before after : List Float) → all ≡ qs → after ≡ at_front (map f all) before → after ≡ at_front (map f qs) before
column_took f all qs before after e p = p ∙ ap (λ (qs : List Quote). at_front (map f qs) before) e

-- columns with room for all of them take the first of each
pub taken_all : (qs : List Quote) (a b c : ℕ) → length qs ≤ a → length qs ≤ b → length qs ≤ c → taken_of qs a b c ≡ kept qs
unfolding taken_of
taken_all qs a b c h k l = rw (le-leb (length qs) a h, le-leb (length qs) b k, le-leb (length qs) c l)

-- the records of a well-formed file that are kept
pub kept_file : (s : List ℕ) (v n : ℕ) → File v n ≡ house_of s → kept (records_at s v n) ≡ kept_of s
unfolding kept_of
kept_file s v n e = ap (kept_for s) e

-- where nothing refuses there is room, the sizes hold, every record passes, and no number has two contents
pub passed :
    (config : FitConfig) (qs : List Quote) (room slots : ℕ) → intake_number config qs room slots ≡ 0
    → ((length qs * 4 ≤ room) × (length qs ≤ slots)) × (sizes_hold (length qs) config ≡ true) × (all_pass qs ≡ true) × (all_agree qs ≡ true)
unfolding intake_number
passed config qs room slots h =
    let n = length qs in
    let x = passed_one (leb (n * 4) room && leb n slots) 12 _ (λ e. omega arith) h in
    let y = passed_one (sizes_hold n config) 11 _ (λ e. omega arith) x.1 in
    let z = passed_one (all_pass qs) 10 _ (λ e. omega arith) y.1 in
    let u = passed_one (all_agree qs) 44 0 (λ e. omega arith) z.1 in
    let p = both (leb (n * 4) room) (leb n slots) x.0 in
    ((leb-true (n * 4) room p.0, leb-true n slots p.1), y.0, z.0, u.0)

pub few : (n : ℕ) (config : FitConfig) → sizes_hold n config ≡ true → n ≤ 256
unfolding sizes_hold
few n c h =
    let p = both (leb n 256 && leb c.grid 255 && leb c.refinements 1000) (leb c.max_recentres 1000) h in
    let q = both (leb n 256 && leb c.grid 255) (leb c.refinements 1000) p.0 in
    leb-true n 256 (both (leb n 256) (leb c.grid 255) q.0).0
