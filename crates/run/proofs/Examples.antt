-- Whole answers, by computation on the definitions: the printed example of document 01, then quotes told apart by their numbers. No settings, w 0.25.
use Prim.Native.Nat.{ℕ}
use mathlib.Core.Path.{◌≡◌, refl}
use mathlib.Core.List.{List, [], ◌∷◌}
use lib.ListN.{replicate}
use Rattle.house.specs.declared.Quote.{Quote}
use Rattle.house.specs.File.{house_of, f64_at, tau_of, config_of, quote_at, quotes}
use Rattle.house.specs.Check.{quote_passes, all_pass}
use Rattle.house.specs.Repeats.{same_content, same_quote, clash, agrees, all_agree, among, unrepeated, kept_after, kept}
use Rattle.house.specs.Taken.{intake_number, kept_of}
use Rattle.house.specs.Encode.{words_bytes, quotes_bytes, file_bytes}
use Rattle.text.specs.Lines.{ascii, read_line, refused_line}
use Rattle.text.specs.Digits.{digits_of, each}
use Rattle.text.specs.Answers.{refused_of, refusal_text}
use Rattle.bits.specs.Bytes.{u64_at}
use Rattle.laws.specs.Loop.{turns}
use Rattle.laws.specs.Floats.{finite}
use lib.Ieee.{of_bits, lt, le, eq}
use Rattle.entry.specs.Entry.{lengths_hold, columns_pass, checks_number, entry_number}
use Rattle.records.specs.Settings.{sizes_hold, settings_hold}
use Rattle.records.specs.Answer.{refused_with}
use Rattle.calibrate.specs.Fit.{fit_of}
use Rattle.outcome.specs.Outcome.{file_outcome, quotes_outcome, settings_of}
use Rattle.run.specs.Answer.{rest_text, behind_read, answer_of}

-- the bits of 1 and of 0.25
abbrev one_bits : ℕ
one_bits = 0x3ff0_0000_0000_0000

abbrev quarter_bits : ℕ
quarter_bits = 0x3fd0_0000_0000_0000

abbrev quote : ℕ → ℕ → ℕ → Quote
quote number k weight = record { number = number; k = k; w = quarter_bits; weight = weight }

abbrev file : ℕ → List Quote → List ℕ
file tau qs = file_bytes 0 [] tau qs

-- nine records of number 7, k 0, w 0.25, weight 1; tau 0.25
-- two dealers with the same price at the same strike both count
-- a retry beside a second dealer's quote: the retry alone is dropped
-- 0 and 2^64 - 1 are numbers like any other
-- one number with k +0 and k -0 is a clash
-- a tau that is not a time, and too few quotes, are asked about after a clash
-- an observation that fails check 10 before it
pub examples :
    (answer_of (file quarter_bits (replicate 9 (quote 7 0 one_bits))) ≡ ascii "read 9 kept 1\nrefused 3 1 5\n")
    × (answer_of (file quarter_bits (quote 7 0 one_bits ∷ quote 8 0 one_bits ∷ [])) ≡ ascii "read 2 kept 2\nrefused 3 2 5\n")
    × (answer_of (file quarter_bits (quote 7 0 one_bits ∷ quote 8 0 one_bits ∷ quote 7 0 one_bits ∷ [])) ≡ ascii "read 3 kept 2\nrefused 3 2 5\n")
    × (answer_of (file quarter_bits (quote 0 0 one_bits ∷ quote 0xffff_ffff_ffff_ffff 0 one_bits ∷ quote 0 0 one_bits ∷ quote 0xffff_ffff_ffff_ffff 0 one_bits ∷ [])) ≡ ascii "read 4 kept 2\nrefused 3 2 5\n")
    × (answer_of (file quarter_bits (quote 7 0 one_bits ∷ quote 7 0x8000_0000_0000_0000 one_bits ∷ [])) ≡ ascii "read 2 kept 2\nrefused 44 0 0\n")
    × (answer_of (file 0 (quote 7 0 one_bits ∷ quote 7 0 quarter_bits ∷ [])) ≡ ascii "read 2 kept 2\nrefused 44 0 0\n")
    × (answer_of (file quarter_bits (quote 7 0 one_bits ∷ quote 7 0 0 ∷ [])) ≡ ascii "read 2 kept 2\nrefused 10 0 0\n")
unfolding
    answer_of
    behind_read
    rest_text
    file_outcome
    quotes_outcome
    settings_of
    kept_of
    house_of
    tau_of
    f64_at
    config_of
    intake_number
    quotes
    quote_at
    quote_passes
    all_pass
    kept
    kept_after
    unrepeated
    among
    same_quote
    same_content
    clash
    agrees
    all_agree
    file_bytes
    quotes_bytes
    words_bytes
    u64_at
    fit_of
    entry_number
    checks_number
    lengths_hold
    sizes_hold
    columns_pass
    settings_hold
    refused_with
    refusal_text
    refused_of
    read_line
    refused_line
    each
    digits_of
    turns
    finite
    of_bits
    lt
    le
    eq
examples = (refl, refl, refl, refl, refl, refl, refl)
