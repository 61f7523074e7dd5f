-- Repeats and clashes: a record is dropped where an earlier one has its number and the same three bit patterns; one number with two contents is a clash. Definitions only.
-- docs/METHOD.md, 'Repeats and the house file'.
use Rattle.std.specs.Prelude.{Bool, true, false, not, ◌&&◌, ◌||◌, cond, List, [], ◌∷◌, ◌++◌, eqb}
use Rattle.house.specs.declared.Quote.{Quote}

-- the content of a record is the bits of k, w and weight: +0 and -0 differ
unfoldable pub same_content : Quote → Quote → Bool
same_content a b = eqb a.k b.k && eqb a.w b.w && eqb a.weight b.weight

-- one number with one content: the later is the earlier sent again
unfoldable pub same_quote : Quote → Quote → Bool
same_quote a b = eqb a.number b.number && same_content a b

-- one number with two contents
unfoldable pub clash : Quote → Quote → Bool
clash a b = eqb a.number b.number && not (same_content a b)

-- q clashes with none of some records
unfoldable pub agrees : Quote → List Quote → Bool
agrees q [] = true
agrees q (e ∷ es) = not (clash q e) && agrees q es

-- no number has two contents: each record agrees with all after it
unfoldable pub all_agree : List Quote → Bool
all_agree [] = true
all_agree (q ∷ qs) = agrees q qs && all_agree qs

-- whether one of some records is the same as q
unfoldable pub among : Quote → List Quote → Bool
among q [] = false
among q (e ∷ es) = same_quote e q || among q es

-- a repeat gives nothing, any other record itself
unfoldable pub unrepeated : Bool → Quote → List Quote
unrepeated repeat q = cond repeat [] (q ∷ [])

-- what is kept of qs where es stand before them
unfoldable pub kept_after : List Quote → List Quote → List Quote
kept_after es [] = []
kept_after es (q ∷ qs) = unrepeated (among q es) q ++ kept_after (es ++ (q ∷ [])) qs

-- the first of each
unfoldable pub kept : List Quote → List Quote
kept qs = kept_after [] qs
