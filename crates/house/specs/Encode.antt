-- The bytes of a house file from what it says. Definitions only.
-- docs/METHOD.md, 'Repeats and the house file'.
use Rattle.std.specs.Prelude.{ℕ, zero, suc, ◌+◌, ◌*◌, ◌/◌, ◌%◌, ◌^◌, ◌<◌, Option, None, Some, List, [], ◌∷◌, ◌++◌, length, get_or}
use Rattle.bits.specs.Bytes.{u64_at}
use Rattle.house.specs.declared.Layout.{Layout}
use Rattle.house.specs.declared.Quote.{Quote}
use Rattle.house.specs.File.{house_of, tau_place, records_at}
use Rattle.house.specs.Repeats.{kept}

-- k bytes, the low one first
abbrev pub le : ℕ → ℕ → List ℕ
le zero n = []
le (suc k) n = n % 256 ∷ le k (n / 256)

-- eight bytes for each word
unfoldable pub words_bytes : List ℕ → List ℕ
words_bytes [] = []
words_bytes (n ∷ ns) = le 8 n ++ words_bytes ns

-- the four words of a record, and the records' bytes
abbrev pub words_of : Quote → List ℕ
words_of q = q.number ∷ q.k ∷ q.w ∷ q.weight ∷ []

unfoldable pub quotes_bytes : List Quote → List ℕ
quotes_bytes [] = []
quotes_bytes (q ∷ qs) = words_bytes (words_of q) ++ quotes_bytes qs

-- c settings of eleven words, tau's bits, and the records, each section after its count
unfoldable pub file_bytes : ℕ → List ℕ → ℕ → List Quote → List ℕ
file_bytes c settings tau qs = le 4 c ++ (words_bytes settings ++ (le 4 1 ++ (le 8 tau ++ (le 4 (length qs) ++ quotes_bytes qs))))

-- a list of bytes
abbrev pub Bytes : List ℕ → Type 0
Bytes s = (i : ℕ) → get_or s i 0 < 256

-- each of some words has at most 64 bits, and so has each of some records
unfoldable pub Wide : List ℕ → Type 0
Wide [] = Unit {0}
Wide (n ∷ ns) = (n < 2 ^ 64) × Wide ns

unfoldable pub AllWide : List Quote → Type 0
AllWide [] = Unit {0}
AllWide (q ∷ qs) = Wide (words_of q) × AllWide qs

-- n words of a file, the first at a place
unfoldable pub words_from : List ℕ → ℕ → ℕ → List ℕ
words_from s at zero = []
words_from s at (suc n) = u64_at s at ∷ words_from s (at + 8) n

-- the file that holds only the first of each record, with the same settings and tau
abbrev pub once_for : List ℕ → Option Layout → List ℕ
once_for s None = s
once_for s (Some h) = file_bytes h.settings (words_from s 4 (11 * h.settings)) (u64_at s (tau_place h.settings)) (kept (records_at s h.settings h.count))

unfoldable pub once_of : List ℕ → List ℕ
once_of s = once_for s (house_of s)
