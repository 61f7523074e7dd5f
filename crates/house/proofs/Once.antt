-- A file with repeats keeps what the file that holds only the first of each keeps: dropping a second time drops nothing, what is kept stands in its order,
-- and what is kept is refused before dropping exactly where all of it is. Assumes nothing.
use Prim.Native.Nat.{ℕ, ◌*◌, ◌≤◌}
use mathlib.Core.Path.{◌≡◌, refl, sym, ap, ◌∙◌}
use mathlib.Core.Bool.{Bool, true, false, not, ◌||◌, ◌&&◌, cond}
use mathlib.Core.List.{List, [], ◌∷◌, ◌++◌, append_assoc}
use native.Mathlib.Omega.{arith}
use lib.Dec.{eqb}
use lib.ListN.{length}
use borrow.Author.Tests.{eqb-true, eq-eqb, le-leb, not-true}
use Rattle.laws.proofs.Choices.{or_right, or_assoc, and_assoc, and_same, eqb_sym, both, false_true}
use Rattle.records.specs.declared.FitConfig.{FitConfig}
use Rattle.records.specs.Settings.{sizes_hold}
use Rattle.house.specs.declared.Quote.{Quote}
use Rattle.house.specs.Check.{quote_passes, all_pass}
use Rattle.house.specs.Repeats.{same_content, same_quote, clash, agrees, all_agree, among, unrepeated, kept_after, kept}
use Rattle.house.specs.Next.{agrees_next, all_agree_next}
use Rattle.house.specs.Taken.{intake_number}

-- a record is its four words
quote_is : {n m k l w x y z : ℕ} → n ≡ m → k ≡ l → w ≡ x → y ≡ z → ◌≡◌ {A = Quote} record { number = n; k = k; w = w; weight = y } record { number = m; k = l; w = x; weight = z }
quote_is e f g h = rw (e, f, g, h)

-- one content: the bits are equal
pub content_is : (a b : Quote) → same_content a b ≡ true → (a.k ≡ b.k) × (a.w ≡ b.w) × (a.weight ≡ b.weight)
unfolding same_content
content_is a b p =
    let x = both (eqb a.k b.k && eqb a.w b.w) (eqb a.weight b.weight) p in
    let y = both (eqb a.k b.k) (eqb a.w b.w) x.0 in
    (eqb-true _ _ y.0, eqb-true _ _ y.1, eqb-true _ _ x.1)

-- records that are the same are one record
pub same_is : (a b : Quote) → same_quote a b ≡ true → a ≡ b
unfolding same_quote
same_is a b p =
    let n = both (eqb a.number b.number) (same_content a b) p in
    let c = content_is a b n.1 in
    quote_is (eqb-true _ _ n.0) c.0 c.1 c.2

-- being the same passes on
same_trans : (a b c : Quote) → same_quote a b ≡ true → same_quote b c ≡ true → same_quote a c ≡ true
same_trans a b c p q = ap (λ (x : Quote). same_quote x c) (same_is a b p) ∙ q

among_append : (q : Quote) (es fs : List Quote) → among q (es ++ fs) ≡ (among q es || among q fs)
unfolding among
among_append q [] fs = refl
among_append q (e ∷ es) fs = ap (λ (b : Bool). same_quote e q || b) (among_append q es fs) ∙ or_assoc (same_quote e q) (among q es) (among q fs)

-- where q is among them, so is whatever is the same as q
among_same : (q x : Quote) (es : List Quote) → among q es ≡ true → same_quote q x ≡ true → among x es ≡ true
unfolding among
among_same q x [] h s = h
among_same q x (e ∷ es) h s = go (same_quote e q) refl h (λ r. among_same q x es r s)
  where
    go : (b : Bool) → same_quote e q ≡ b → (b || among q es) ≡ true → (among q es ≡ true → among x es ≡ true) → (same_quote e x || among x es) ≡ true
    go true p h f = rw (same_trans e q x p s)
    go false p h f = or_right (same_quote e x) (f h)

-- ---- dropping twice

-- two lists of earlier records that tell every record alike
abbrev Alike : List Quote → List Quote → Type 0
Alike es fs = (x : Quote) → among x es ≡ among x fs

alike_snoc : (es fs : List Quote) (q : Quote) → Alike es fs → Alike (es ++ (q ∷ [])) (fs ++ (q ∷ []))
alike_snoc es fs q a x = among_append x es (q ∷ []) ∙ ap (λ (b : Bool). b || among x (q ∷ [])) (a x) ∙ sym (among_append x fs (q ∷ []))

-- a repeat tells nothing new
alike_repeat : (es fs : List Quote) (q : Quote) → Alike es fs → among q fs ≡ true → Alike es (fs ++ (q ∷ []))
unfolding among
alike_repeat es fs q a h x = a x ∙ go (same_quote q x) refl ∙ sym (among_append x fs (q ∷ []))
  where
    or_false : (b : Bool) → b ≡ (b || false)
    or_false true = refl
    or_false false = refl

    go : (b : Bool) → same_quote q x ≡ b → among x fs ≡ (among x fs || (same_quote q x || false))
    go true p = rw (p, among_same q x fs h p)
    go false p = rw p (or_false (among x fs))

again : (es fs : List Quote) (qs : List Quote) → Alike es fs → kept_after es (kept_after fs qs) ≡ kept_after fs qs
unfolding kept_after unrepeated
again es fs [] a = refl
again es fs (q ∷ qs) a = go (among q fs) refl (λ (ds : List Quote). again ds (fs ++ (q ∷ [])) qs)
  where
    go : (b : Bool) → among q fs ≡ b → ((ds : List Quote) → Alike ds (fs ++ (q ∷ [])) → kept_after ds (kept_after (fs ++ (q ∷ [])) qs) ≡ kept_after (fs ++ (q ∷ [])) qs) → kept_after es (unrepeated b q ++ kept_after (fs ++ (q ∷ [])) qs) ≡ unrepeated b q ++ kept_after (fs ++ (q ∷ [])) qs
    go true p f = f es (alike_repeat es fs q a p)
    go false p f = rw (a q, p) (ap (λ (l : List Quote). q ∷ l) (f (es ++ (q ∷ [])) (alike_snoc es fs q a)))

-- the records kept are kept again, all of them
pub kept_once : (qs : List Quote) → kept (kept qs) ≡ kept qs
unfolding kept
kept_once qs = again [] [] qs (λ x. refl)

-- ---- in their order

-- some records of a list, in the list's order
pub data Sublist : List Quote → List Quote → Type 0 where
  none : Sublist [] []
  drop : {q : Quote} {xs ys : List Quote} → Sublist xs ys → Sublist xs (q ∷ ys)
  keep : {q : Quote} {xs ys : List Quote} → Sublist xs ys → Sublist (q ∷ xs) (q ∷ ys)

some : (es qs : List Quote) → Sublist (kept_after es qs) qs
unfolding kept_after unrepeated
some es [] = none
some es (q ∷ qs) = go (among q es) (some (es ++ (q ∷ [])) qs)
  where
    go : (b : Bool) → Sublist (kept_after (es ++ (q ∷ [])) qs) qs → Sublist (unrepeated b q ++ kept_after (es ++ (q ∷ [])) qs) (q ∷ qs)
    go true s = drop s
    go false s = keep s

pub kept_in_order : (qs : List Quote) → Sublist (kept qs) qs
unfolding kept
kept_in_order qs = some [] qs

sub_short : {xs ys : List Quote} → Sublist xs ys → length xs ≤ length ys
sub_short none = omega arith
sub_short (drop s) = let h = sub_short s in omega arith
sub_short (keep s) = let h = sub_short s in omega arith

pub kept_short : (qs : List Quote) → length (kept qs) ≤ length qs
kept_short qs = sub_short (kept_in_order qs)

-- ---- check 10

same_passes : (a b : Quote) → same_quote a b ≡ true → quote_passes a ≡ quote_passes b
same_passes a b p = ap quote_passes (same_is a b p)

among_passes : (q : Quote) (es : List Quote) → among q es ≡ true → all_pass es ≡ true → quote_passes q ≡ true
unfolding among all_pass
among_passes q [] h p = false_true h
among_passes q (e ∷ es) h p =
    let x = both (quote_passes e) (all_pass es) p in
    go (same_quote e q) refl h x.0 (λ r. among_passes q es r x.1)
  where
    go : (b : Bool) → same_quote e q ≡ b → (b || among q es) ≡ true → quote_passes e ≡ true → (among q es ≡ true → quote_passes q ≡ true) → quote_passes q ≡ true
    go true s h x f = sym (same_passes e q s) ∙ x
    go false s h x f = f h

pass_snoc : (es : List Quote) (q : Quote) → all_pass es ≡ true → quote_passes q ≡ true → all_pass (es ++ (q ∷ [])) ≡ true
unfolding all_pass
pass_snoc [] q p h = rw h
pass_snoc (e ∷ es) q p h =
    let x = both (quote_passes e) (all_pass es) p in
    rw x.0 (pass_snoc es q x.1 h)

passing : (es qs : List Quote) → all_pass es ≡ true → all_pass (kept_after es qs) ≡ all_pass qs
unfolding kept_after unrepeated all_pass
passing es [] p = refl
passing es (q ∷ qs) p = go (among q es) refl (quote_passes q) refl (λ h. passing (es ++ (q ∷ [])) qs (pass_snoc es q p h))
  where
    go : (b : Bool) → among q es ≡ b → (c : Bool) → quote_passes q ≡ c → (quote_passes q ≡ true → all_pass (kept_after (es ++ (q ∷ [])) qs) ≡ all_pass qs) → all_pass (unrepeated b q ++ kept_after (es ++ (q ∷ [])) qs) ≡ (quote_passes q && all_pass qs)
    go true r c s f =
        let h = among_passes q es r p in
        f h ∙ rw h
    go false r true s f = rw (s, f s)
    go false r false s f = rw s

-- check 10 holds of a repeat where it holds of its first
pub kept_passes : (qs : List Quote) → all_pass (kept qs) ≡ all_pass qs
unfolding kept all_pass
kept_passes qs = passing [] qs refl

-- ---- one number, one content

clash_sym : (a b : Quote) → clash a b ≡ clash b a
unfolding clash same_content
clash_sym a b = rw (eqb_sym a.number b.number, eqb_sym a.k b.k, eqb_sym a.w b.w, eqb_sym a.weight b.weight)

-- no record clashes with itself
clash_self : (q : Quote) → clash q q ≡ false
unfolding clash same_content
clash_self q = rw (eq-eqb q.number q.number refl, eq-eqb q.k q.k refl, eq-eqb q.w q.w refl, eq-eqb q.weight q.weight refl)

agrees_append : (q : Quote) (es fs : List Quote) → agrees q (es ++ fs) ≡ (agrees q es && agrees q fs)
unfolding agrees
agrees_append q [] fs = refl
agrees_append q (e ∷ es) fs = ap (λ (b : Bool). not (clash q e) && b) (agrees_append q es fs) ∙ and_assoc (not (clash q e)) (agrees q es) (agrees q fs)

-- what agrees with all of them agrees with each that is among them
agrees_each : (x q : Quote) (es : List Quote) → among q es ≡ true → agrees x es ≡ true → clash x q ≡ false
unfolding among agrees
agrees_each x q [] h a = false_true h
agrees_each x q (e ∷ es) h a =
    let n = both (not (clash x e)) (agrees x es) a in
    go (same_quote e q) refl h (not-true (clash x e) n.0) (λ r. agrees_each x q es r n.1)
  where
    go : (b : Bool) → same_quote e q ≡ b → (b || among q es) ≡ true → clash x e ≡ false → (among q es ≡ true → clash x q ≡ false) → clash x q ≡ false
    go true p h c f = sym (ap (clash x) (same_is e q p)) ∙ c
    go false p h c f = f h

-- one record more: x agrees as before where it agrees with that one, or where it is among those that x is asked about anyway
agrees_more : (x q : Quote) (es fs : List Quote) → (agrees x es ≡ true → clash x q ≡ false) → agrees x (es ++ (q ∷ fs)) ≡ agrees x (es ++ fs)
unfolding agrees
agrees_more x q es fs c =
    agrees_append x es (q ∷ fs)
    ∙ and_same (agrees x es) (λ h. ap (λ (b : Bool). not b && agrees x fs) (c h))
    ∙ sym (agrees_append x es fs)

-- and all agree as before where it agrees with all the others
agree_more : (q : Quote) (es fs : List Quote) → agrees q (es ++ fs) ≡ true → all_agree (es ++ (q ∷ fs)) ≡ all_agree (es ++ fs)
unfolding agrees all_agree
agree_more q [] fs a = ap (λ (b : Bool). b && all_agree fs) a
agree_more q (e ∷ es) fs a =
    let n = both (not (clash q e)) (agrees q (es ++ fs)) a in
    let c : clash e q ≡ false = clash_sym e q ∙ not-true (clash q e) n.0 in
    rw (agrees_more e q es fs (λ h. c), agree_more q es fs n.1)

-- a repeat changes nothing
agree_repeat : (q : Quote) (es fs : List Quote) → among q es ≡ true → all_agree (es ++ (q ∷ fs)) ≡ all_agree (es ++ fs)
unfolding among all_agree
agree_repeat q [] fs h = false_true h
agree_repeat q (e ∷ es) fs h = go (same_quote e q) refl h (λ r. agree_repeat q es fs r)
  where
    go : (b : Bool) → same_quote e q ≡ b → (b || among q es) ≡ true → (among q es ≡ true → all_agree (es ++ (q ∷ fs)) ≡ all_agree (es ++ fs))
        → (agrees e (es ++ (q ∷ fs)) && all_agree (es ++ (q ∷ fs))) ≡ (agrees e (es ++ fs) && all_agree (es ++ fs))
    go true p h f =
        let c : clash e q ≡ false = sym (ap (clash e) (same_is e q p)) ∙ clash_self e in
        ap (λ (b : Bool). b && all_agree (es ++ (q ∷ fs))) (agrees_more e q es fs (λ h. c))
        ∙ and_same (agrees e (es ++ fs)) (λ a. agree_more q es fs (sym (ap (λ (x : Quote). agrees x (es ++ fs)) (same_is e q p)) ∙ a))
    go false p h f = rw (agrees_more e q es fs (agrees_each e q es h), f h)

agreeing : (es qs : List Quote) → all_agree (es ++ kept_after es qs) ≡ all_agree (es ++ qs)
unfolding kept_after unrepeated
agreeing es [] = refl
agreeing es (q ∷ qs) = go (among q es) refl (agreeing (es ++ (q ∷ [])) qs)
  where
    next : List Quote
    next = kept_after (es ++ (q ∷ [])) qs

    go : (b : Bool) → among q es ≡ b → all_agree ((es ++ (q ∷ [])) ++ next) ≡ all_agree ((es ++ (q ∷ [])) ++ qs) → all_agree (es ++ (unrepeated b q ++ next)) ≡ all_agree (es ++ (q ∷ qs))
    go true p f = sym (agree_repeat q es next p) ∙ ap all_agree (sym (append_assoc es (q ∷ []) next)) ∙ f ∙ ap all_agree (append_assoc es (q ∷ []) qs)
    go false p f = ap all_agree (sym (append_assoc es (q ∷ []) next)) ∙ f ∙ ap all_agree (append_assoc es (q ∷ []) qs)

-- no number has two contents in the firsts exactly where none has in all of them
pub kept_agree : (qs : List Quote) → all_agree (kept qs) ≡ all_agree qs
unfolding kept
kept_agree qs = agreeing [] qs

-- ---- each record and the next one of its number, which answers for those after it

agree_next : (q : Quote) (es : List Quote) → all_agree es ≡ true → agrees_next q es ≡ agrees q es
unfolding agrees_next agrees all_agree clash same_quote
agree_next q [] a = refl
agree_next q (e ∷ es) a =
    let n = both (agrees e es) (all_agree es) a in
    go (eqb q.number e.number) refl (same_content q e) refl n.0 (agree_next q es n.1)
  where
    go : (b : Bool) → eqb q.number e.number ≡ b → (c : Bool) → same_content q e ≡ c → agrees e es ≡ true → agrees_next q es ≡ agrees q es → cond b c (agrees_next q es) ≡ (not (b && not c) && agrees q es)
    go true p true r a f =
        let same : same_quote q e ≡ true = ap (λ (b : Bool). b && same_content q e) p ∙ r in
        sym (ap (λ (x : Quote). agrees x es) (same_is q e same) ∙ a)
    go true p false r a f = refl
    go false p c r a f = f

pub next_is : (qs : List Quote) → all_agree_next qs ≡ all_agree qs
unfolding all_agree_next all_agree
next_is [] = refl
next_is (q ∷ qs) = go (all_agree qs) refl (next_is qs)
  where
    go : (b : Bool) → all_agree qs ≡ b → all_agree_next qs ≡ b → (agrees_next q qs && all_agree_next qs) ≡ (agrees q qs && all_agree qs)
    go true a f = rw (f, a, agree_next q qs a)
    go false a f = rw (f, a) (and_false (agrees_next q qs) ∙ sym (and_false (agrees q qs)))
      where
        and_false : (b : Bool) → (b && false) ≡ false
        and_false true = refl
        and_false false = refl

-- ---- the number that refuses before dropping

pub sizes_same : (m n : ℕ) (c : FitConfig) → m ≤ 256 → n ≤ 256 → sizes_hold m c ≡ sizes_hold n c
unfolding sizes_hold
sizes_same m n c h k = rw (le-leb m 256 h, le-leb n 256 k)

-- of at most 256 records, with room for all of them
pub kept_intake :
    (config : FitConfig) (qs : List Quote) (room slots : ℕ)
    → length qs ≤ 256 → length qs * 4 ≤ room → length qs ≤ slots → intake_number config (kept qs) room slots ≡ intake_number config qs room slots
unfolding intake_number
kept_intake config qs room slots l h k =
    let m = length (kept qs) in
    let n = length qs in
    let few = kept_short qs in
    rw (
      kept_passes qs,
      kept_agree qs,
      sizes_same m n config (omega arith) l,
      le-leb (m * 4) room (omega arith),
      le-leb m slots (omega arith),
      le-leb (n * 4) room h,
      le-leb n slots k,
    )
