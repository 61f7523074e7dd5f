-- When records are refused with 44, and what is kept past it, in terms of numbers and contents. Definitions only.
-- docs/METHOD.md, 'Repeats and the house file'.
use Rattle.std.specs.Prelude.{ℕ, ◌*◌, ◌≤◌, ◌≡◌, true, List, [], ◌∷◌, ◌++◌, length, get_or}
use Rattle.laws.specs.Some.{Some}
use Rattle.records.specs.declared.FitConfig.{FitConfig}
use Rattle.records.specs.Settings.{sizes_hold}
use Rattle.house.specs.declared.Quote.{Quote}
use Rattle.house.specs.Check.{all_pass}

-- record i of some, counted from 0
abbrev pub nth : List Quote → ℕ → Quote
nth qs i = get_or qs i record { number = 0; k = 0; w = 0; weight = 0 }

-- one number, and another bit pattern of k, w or weight
abbrev pub Clashing : Quote → Quote → Type 0
Clashing a b = (a.number ≡ b.number) × ¬ ((a.k ≡ b.k) × (a.w ≡ b.w) × (a.weight ≡ b.weight))

-- some record j and an earlier one, i, have one number with two contents
abbrev pub TwoContents : List Quote → Type 0
TwoContents qs = Some (length qs) (λ j. Some j (λ i. Clashing (nth qs i) (nth qs j)))

-- nothing that is asked before 44 refuses: there is room for all of them, no size is exceeded, and each passes check 10
abbrev pub NoneBefore44 : FitConfig → List Quote → ℕ → ℕ → Type 0
NoneBefore44 config qs room slots = ((length qs * 4 ≤ room) × (length qs ≤ slots)) × (sizes_hold (length qs) config ≡ true) × (all_pass qs ≡ true)

-- one of some records has the number of q
abbrev pub Numbered : Quote → List Quote → Type 0
Numbered q es = Some (length es) (λ i. (nth es i).number ≡ q.number)

-- the first of each number, in their order, where es stand before them all: a record whose number stands before it is dropped, any other is kept
pub data FirstOfEach : List Quote → List Quote → List Quote → Type 0 where
  no_more : {es : List Quote} → FirstOfEach es [] []
  old_number : {q : Quote} {es qs firsts : List Quote} → Numbered q es → FirstOfEach (es ++ (q ∷ [])) qs firsts → FirstOfEach es (q ∷ qs) firsts
  new_number : {q : Quote} {es qs firsts : List Quote} → ¬ Numbered q es → FirstOfEach (es ++ (q ∷ [])) qs firsts → FirstOfEach es (q ∷ qs) (q ∷ firsts)
