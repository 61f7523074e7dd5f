-- The question of 44 as the code asks it, of each record and the next one of its number alone. No reader has to believe this: no public contract cites it, and proofs/Once shows that its answer is that of Repeats. Definitions only.
use Rattle.std.specs.Prelude.{Bool, true, ◌&&◌, cond, List, [], ◌∷◌, eqb}
use Rattle.house.specs.declared.Quote.{Quote}
use Rattle.house.specs.Repeats.{same_content}

-- the next record with the number of q has its content, or there is none
unfoldable pub agrees_next : Quote → List Quote → Bool
agrees_next q [] = true
agrees_next q (e ∷ es) = cond (eqb q.number e.number) (same_content q e) (agrees_next q es)

unfoldable pub all_agree_next : List Quote → Bool
all_agree_next [] = true
all_agree_next (q ∷ qs) = agrees_next q qs && all_agree_next qs
