-- The searches over the records, for one that fails check 10, for the next one of a number and for an earlier one that is the same, and what is kept from the i-th record on. Assumes nothing.
use Prim.Native.Nat.{ℕ, ◌+◌, ◌-◌, ◌<◌, ◌≤◌}
use mathlib.Core.Path.{◌≡◌, refl, sym, ap, ◌∙◌}
use mathlib.Core.Bool.{Bool, true, false, ◌&&◌, cond}
use mathlib.Core.List.{List, [], ◌∷◌, ◌++◌, map}
use native.Mathlib.Omega.{arith}
use native.Mathlib.Numerals.{add-one}
use lib.ListN.{length, take, drop, get_or, length-map, length-drop}
use lib.Seq.{drop-cons, take-suc, take_all}
use Rattle.std.specs.List.{list_all, list_any, take-map, drop-map}
use Rattle.std.proofs.lemmas.List.{get_or-map, drop_all}
use borrow.Author.Tests.{eq-eqb, ne_eqb}
use Rattle.house.specs.declared.Quote.{Quote}
use Rattle.house.specs.File.{quote_of}
use Rattle.house.specs.Check.{quote_passes, all_pass}
use Rattle.house.specs.Repeats.{same_content, same_quote, among, unrepeated, kept_after, kept}
use Rattle.house.specs.Next.{agrees_next, all_agree_next}

-- ---- the two searches that answer for all records

pub passes_all : (sent : List (List ℕ)) → list_all (λ s. quote_passes (quote_of s)) sent ≡ all_pass (map quote_of sent)
unfolding all_pass
passes_all [] = refl
passes_all (s ∷ sent) = rw (passes_all sent)

pub among_any : (q : Quote) (sent : List (List ℕ)) → list_any (λ s. same_quote (quote_of s) q) sent ≡ among q (map quote_of sent)
unfolding among
among_any q [] = refl
among_any q (s ∷ sent) = rw (among_any q sent)

-- ---- the i-th of some records, and those after it

module _ (sent : List (List ℕ)) (i : ℕ) (h : i < length sent) where
  rest_cons : drop i (map quote_of sent) ≡ quote_of (get_or sent i []) ∷ drop (i + 1) (map quote_of sent)
  rest_cons =
      let l : i < length (map quote_of sent) = omega (arith, length-map sent quote_of) in
      drop-cons (map quote_of sent) i (quote_of []) l ∙ rw (get_or-map quote_of sent i [] (quote_of []) h, add-one)

  front_snoc : take (i + 1) (map quote_of sent) ≡ take i (map quote_of sent) ++ (quote_of (get_or sent i []) ∷ [])
  front_snoc =
      let l : i < length (map quote_of sent) = omega (arith, length-map sent quote_of) in
      rw (add-one) (take-suc (map quote_of sent) i (quote_of []) l ∙ rw (get_or-map quote_of sent i [] (quote_of []) h))

rest_none : (sent : List (List ℕ)) (i : ℕ) → length sent ≤ i → drop i (map quote_of sent) ≡ []
rest_none sent i h = drop_all i (map quote_of sent) (omega (arith, length-map sent quote_of))

-- ---- the next record with the number of q

module _ (q : Quote) (sent : List (List ℕ)) (i : ℕ) (h : i < length sent) {w : Bool} (inv : agrees_next q (drop i (map quote_of sent)) ≡ w) where
  met : agrees_next q (quote_of (get_or sent i []) ∷ drop (i + 1) (map quote_of sent)) ≡ w
  met = ap (agrees_next q) (sym (rest_cons sent i h)) ∙ inv

  pub next_met : (quote_of (get_or sent i [])).number ≡ q.number → same_content q (quote_of (get_or sent i [])) ≡ w
  unfolding agrees_next
  next_met y = let e = eq-eqb _ _ (sym y) in ap (λ b. cond b (same_content q (quote_of (get_or sent i []))) (agrees_next q (drop (i + 1) (map quote_of sent)))) (sym e) ∙ met

  pub next_passed : ((quote_of (get_or sent i [])).number ≡ q.number → ⊥) → agrees_next q (drop (i + 1) (map quote_of sent)) ≡ w
  unfolding agrees_next
  next_passed y = let e = ne_eqb q.number _ (λ z. y (sym z)) in ap (λ b. cond b (same_content q (quote_of (get_or sent i []))) (agrees_next q (drop (i + 1) (map quote_of sent)))) (sym e) ∙ met

pub none_next : (q : Quote) (sent : List (List ℕ)) (i : ℕ) → length sent ≤ i → {w : Bool} → agrees_next q (drop i (map quote_of sent)) ≡ w → true ≡ w
unfolding agrees_next
none_next q sent i h inv = sym (ap (agrees_next q) (rest_none sent i h)) ∙ inv

-- ---- each record and the next one of its number

module _ (sent : List (List ℕ)) (i : ℕ) (h : i < length sent) {w r : Bool} (inv : all_agree_next (drop i (map quote_of sent)) ≡ w) (t : r ≡ agrees_next (quote_of (get_or sent i [])) (map quote_of (take (length sent - (i + 1)) (drop (i + 1) sent)))) where
  told : (r && all_agree_next (drop (i + 1) (map quote_of sent))) ≡ w
  unfolding all_agree_next
  told = rw (t, take_all (length sent - (i + 1)) (drop (i + 1) sent) (omega (arith, length-drop (i + 1) sent)), ← drop-map) (ap all_agree_next (sym (rest_cons sent i h)) ∙ inv)

  pub some_clash : r ≡ false → false ≡ w
  some_clash e = ap (λ b. b && all_agree_next (drop (i + 1) (map quote_of sent))) (sym e) ∙ told

  pub no_clash : r ≡ true → all_agree_next (drop (i + 1) (map quote_of sent)) ≡ w
  no_clash e = ap (λ b. b && all_agree_next (drop (i + 1) (map quote_of sent))) (sym e) ∙ told

pub all_agreed : (sent : List (List ℕ)) (i : ℕ) → length sent ≤ i → {w : Bool} → all_agree_next (drop i (map quote_of sent)) ≡ w → true ≡ w
unfolding all_agree_next
all_agreed sent i h inv = sym (ap all_agree_next (rest_none sent i h)) ∙ inv

-- ---- what is kept of the records from the i-th on

pub rest : List (List ℕ) → ℕ → List Quote
rest sent i = kept_after (take i (map quote_of sent)) (drop i (map quote_of sent))

pub rest_start : (sent : List (List ℕ)) → rest sent 0 ≡ kept (map quote_of sent)
unfolding rest kept
rest_start sent = refl

pub rest_end : (sent : List (List ℕ)) (i : ℕ) → length sent ≤ i → rest sent i ≡ []
unfolding rest kept_after
rest_end sent i h = rw (rest_none sent i h)

rest_step : (sent : List (List ℕ)) (i : ℕ) → i < length sent → rest sent i ≡ unrepeated (among (quote_of (get_or sent i [])) (take i (map quote_of sent))) (quote_of (get_or sent i [])) ++ rest sent (i + 1)
unfolding rest kept_after
rest_step sent i h = ap (kept_after (take i (map quote_of sent))) (rest_cons sent i h) ∙ rw (front_snoc sent i h)

-- a repeat leaves the rest as it is; any other record is the rest's first
module _ (sent : List (List ℕ)) (i : ℕ) (h : i < length sent) (q : Quote) (p : q ≡ quote_of (get_or sent i [])) {r : Bool} (t : r ≡ among q (map quote_of (take i sent))) where
  pub rest_drop : r ≡ true → rest sent i ≡ rest sent (i + 1)
  unfolding unrepeated
  rest_drop e = rest_step sent i h ∙ rw (← p, take-map, ← t, e)

  pub rest_keep : r ≡ false → rest sent i ≡ q ∷ rest sent (i + 1)
  unfolding unrepeated
  rest_keep e = rest_step sent i h ∙ rw (← p, take-map, ← t, e)

-- ---- a record that is the same

module _ (q x : Quote) where
  pub same_no : (x.number ≡ q.number → ⊥) → false ≡ same_quote x q
  unfolding same_quote
  same_no h = rw (ne_eqb x.number q.number h)

  pub same_yes : x.number ≡ q.number → same_content x q ≡ same_quote x q
  unfolding same_quote
  same_yes h = rw (eq-eqb x.number q.number h)
