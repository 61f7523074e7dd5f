-- Which records are taken in: what refuses them before repeats are dropped, and what is kept of them. Definitions only.
-- docs/METHOD.md, 'Before the search', 'Repeats and the house file'.
use Rattle.std.specs.Prelude.{ℕ, ◌*◌, ◌&&◌, Option, None, Some, List, [], length, leb}
use Rattle.laws.specs.Choice.{unless}
use Rattle.records.specs.declared.FitConfig.{FitConfig}
use Rattle.records.specs.Settings.{sizes_hold}
use Rattle.house.specs.File.{house_of, records_at}
use Rattle.house.specs.Check.{all_pass}
use Rattle.house.specs.Repeats.{all_agree, kept}
use Rattle.house.specs.declared.Layout.{Layout}
use Rattle.house.specs.declared.Quote.{Quote}

-- before repeats are dropped: room for four residual numbers and one capped position for every record, then the sizes, then check 10 over all of them,
-- then that no number has two contents; 0 where nothing refuses
unfoldable pub intake_number : FitConfig → List Quote → ℕ → ℕ → ℕ
intake_number config qs room slots =
    unless (leb (length qs * 4) room && leb (length qs) slots) 12
    (unless (sizes_hold (length qs) config) 11
    (unless (all_pass qs) 10
    (unless (all_agree qs) 44
    0)))

-- what three columns with room for a, b and c values take: the first of each record, or nothing where one has not room for all of them
unfoldable pub taken_of : List Quote → ℕ → ℕ → ℕ → List Quote
taken_of qs a b c = unless (leb (length qs) a && leb (length qs) b && leb (length qs) c) [] (kept qs)

abbrev pub kept_for : List ℕ → Option Layout → List Quote
kept_for s None = []
kept_for s (Some h) = kept (records_at s h.settings h.count)

-- the first of each record of a file
unfoldable pub kept_of : List ℕ → List Quote
kept_of s = kept_for s (house_of s)
