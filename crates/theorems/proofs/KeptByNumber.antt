-- Past 44 the number alone settles what is kept: the first record of each number, in their order, and no two that are kept have one number.
use Prim.Native.Nat.{ℕ, zero, suc, ◌+◌, ◌<◌}
use mathlib.Core.Path.{◌≡◌, refl, sym, ap, ◌∙◌}
use mathlib.Core.Bool.{Bool, true, false, not, ◌||◌, ◌&&◌}
use mathlib.Core.List.{List, [], ◌∷◌, ◌++◌, append_assoc}
use native.Mathlib.Omega.{arith}
use native.Mathlib.Nat.{add-zero}
use lib.Dec.{eqb}
use lib.ListN.{length, length-append, get_or-append}
use lib.Seq.{get_or-append-add}
use borrow.Author.Tests.{eq-eqb}
use Rattle.laws.specs.Some.{Some}
use Rattle.laws.proofs.Choices.{or_right, off, false_true}
use Rattle.house.specs.declared.Quote.{Quote}
use Rattle.house.specs.Repeats.{same_content, same_quote, clash, all_agree, among, unrepeated, kept_after, kept}
use Rattle.house.specs.When.{nth, Numbered, FirstOfEach, no_more, old_number, new_number}
use Rattle.house.proofs.Once.{same_is}
use Rattle.theorems.proofs.TwoContents.{agree_at}

-- ---- records of a list and one more

longer : (es : List Quote) (q : Quote) → length (es ++ (q ∷ [])) ≡ length es + 1
longer es q = length-append es (q ∷ [])

-- the record behind some
behind : (es : List Quote) (q : Quote) (qs : List Quote) → nth (es ++ (q ∷ qs)) (length es) ≡ q
behind es q qs = ap (nth (es ++ (q ∷ qs))) (sym (add-zero (length es))) ∙ get_or-append-add es (q ∷ qs) 0 _

earlier : (x : Quote) (es : List Quote) (q : Quote) → Numbered x es → Numbered x (es ++ (q ∷ []))
earlier x es q s = (s.0, omega (arith, s.1, longer es q), ap (λ (e : Quote). e.number) (get_or-append es (q ∷ []) _ s.0 s.1) ∙ s.2)

last : (x : Quote) (es : List Quote) (q : Quote) → q.number ≡ x.number → Numbered x (es ++ (q ∷ []))
last x es q e = (length es, omega (arith, longer es q), ap (λ (e : Quote). e.number) (behind es q []) ∙ e)

-- ---- the first of each number

-- none of them has a number that stands before them all
apart : {es qs firsts : List Quote} → FirstOfEach es qs firsts → (i : ℕ) → i < length firsts → ¬ Numbered (nth firsts i) es
apart no_more i l n = absurd (omega arith)
apart (old_number {q} {es} {qs} {firsts} h f) i l n = apart f i l (earlier (nth firsts i) es q n)
apart (new_number h f) zero l n = h n
apart (new_number {q} {es} {qs} {firsts} h f) (suc i) l n = apart f i (omega arith) (earlier (nth firsts i) es q n)

-- no two of them have one number
pub all_different : {es qs firsts : List Quote} → FirstOfEach es qs firsts → (i j : ℕ) → i < j → j < length firsts → ¬ ((nth firsts i).number ≡ (nth firsts j).number)
all_different no_more i j l k e = absurd (omega arith)
all_different (old_number h f) i j l k e = all_different f i j l k e
all_different (new_number h f) i zero l k e = absurd (omega arith)
all_different (new_number {q} {es} {qs} {firsts} h f) zero (suc j) l k e = apart f j (omega arith) (last (nth firsts j) es q e)
all_different (new_number h f) (suc i) (suc j) l k e = all_different f i j (omega arith) (omega arith) e

-- ---- what is kept

among_some : (q : Quote) (es : List Quote) → among q es ≡ true → Some (length es) (λ i. same_quote (nth es i) q ≡ true)
unfolding among
among_some q [] h = false_true h
among_some q (e ∷ es) h = go (same_quote e q) refl h (among_some q es)
  where
    go : (b : Bool) → same_quote e q ≡ b → (b || among q es) ≡ true → (among q es ≡ true → Some (length es) (λ i. same_quote (nth es i) q ≡ true)) → Some (length (e ∷ es)) (λ i. same_quote (nth (e ∷ es) i) q ≡ true)
    go true p h f = (0, omega arith, p)
    go false p h f = let s = f h in (suc s.0, omega (arith, s.1), s.2)

among_at : (q : Quote) (es : List Quote) (i : ℕ) → i < length es → same_quote (nth es i) q ≡ true → among q es ≡ true
unfolding among
among_at q [] i l h = absurd (omega arith)
among_at q (e ∷ es) zero l h = rw h
among_at q (e ∷ es) (suc i) l h = or_right (same_quote e q) (among_at q es i (omega arith) h)

-- of two records with one number that do not clash the later is a repeat
same_by_number : (a b : Quote) → clash a b ≡ false → a.number ≡ b.number → same_quote a b ≡ true
unfolding clash same_quote
same_by_number a b c e = go (eqb a.number b.number) (same_content a b) (eq-eqb a.number b.number e) c
  where
    go : (n x : Bool) → n ≡ true → (n && not x) ≡ false → (n && x) ≡ true
    go true true e h = refl
    go true false e h = false_true (sym h)
    go false x e h = false_true e

kept_after_lem : (es qs : List Quote) → all_agree (es ++ qs) ≡ true → FirstOfEach es qs (kept_after es qs)
unfolding kept_after unrepeated
kept_after_lem es [] h = no_more
kept_after_lem es (q ∷ qs) h = go (among q es) refl (kept_after_lem (es ++ (q ∷ [])) qs (ap all_agree (append_assoc es (q ∷ []) qs) ∙ h))
  where
    fresh : among q es ≡ false → ¬ Numbered q es
    fresh p s =
        let whole = es ++ (q ∷ qs) in
        let l : length es < length whole = omega (arith, length-append es (q ∷ qs)) in
        let c : clash (nth es s.0) q ≡ false =
        sym (ap (λ (x : Quote). clash x q) (get_or-append es (q ∷ qs) _ s.0 s.1)) ∙ sym (ap (clash (nth whole s.0)) (behind es q qs)) ∙ agree_at whole s.0 (length es) h s.1 l in
        off p (among_at q es s.0 s.1 (same_by_number (nth es s.0) q c s.2))

    go : (b : Bool) → among q es ≡ b → FirstOfEach (es ++ (q ∷ [])) qs (kept_after (es ++ (q ∷ [])) qs) → FirstOfEach es (q ∷ qs) (unrepeated b q ++ kept_after (es ++ (q ∷ [])) qs)
    go true p f = let s = among_some q es p in old_number (s.0, s.1, ap (λ (x : Quote). x.number) (same_is (nth es s.0) q s.2)) f
    go false p f = new_number (fresh p) f

-- no number has two contents: what is kept is the first of each number
pub kept_by_number : (qs : List Quote) → all_agree qs ≡ true → FirstOfEach [] qs (kept qs)
unfolding kept
kept_by_number qs h = kept_after_lem [] qs h

-- and all numbers kept are different
pub kept_numbers : (qs : List Quote) → all_agree qs ≡ true → (i j : ℕ) → i < j → j < length (kept qs) → ¬ ((nth (kept qs) i).number ≡ (nth (kept qs) j).number)
kept_numbers qs h = all_different (kept_by_number qs h)
