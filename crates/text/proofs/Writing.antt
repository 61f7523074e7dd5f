-- Laws of writing: one text after another, digits, and lists of values as they are written. Assumes nothing.
use Prim.Native.Nat.{ℕ, zero, suc, ◌+◌, ◌*◌, ◌-◌, ◌/◌, ◌%◌, ◌≤◌, ◌<◌}
use mathlib.Core.Path.{◌≡◌, refl, sym, ap, ap₂, ◌∙◌}
use mathlib.Core.Bool.{Bool, true, false, cond}
use mathlib.Core.List.{List, [], ◌∷◌, ◌++◌, append_assoc, append-nil}
use native.Mathlib.Omega.{arith}
use native.Mathlib.Nat.{zero-add, add-zero, sub-zero}
use native.Mathlib.Numerals.{add-one, sub-one}
use lib.ListN.{length, take, drop, set, get_or, length-append, length-set, length-drop}
use lib.Seq.{set_out, set-append_seam, take-suc, take_all, drop-drop, length-take-le}
use Rattle.laws.specs.Loop.{turns, for}
use Rattle.laws.proofs.Loops.{turns_last}
use lib.Dec.{ltb}
use borrow.Author.Tests.{lt-ltb, le-ltb, le-leb, lt-leb}
use Rattle.text.specs.Digits.{glyph_of, digits_of, each}
use Rattle.laws.proofs.Choices.{if_true, if_false}
use Rattle.std.specs.Simd.{first_chunks}
use Rattle.text.specs.declared.page.Page.{Page}
use Rattle.text.specs.Place.{Wrote, Says, onto, placed}

-- nothing written
pub wrote_none : (l : List ℕ) (at : ℕ) → Wrote l l at at []
unfolding onto
wrote_none l at = record { holds = refl; next = omega arith }

-- one byte, where the room has its place, and where it has not
pub wrote_one : (l : List ℕ) (at b : ℕ) → Wrote l (set l at b) at (at + 1) (b ∷ [])
unfolding onto
wrote_one l at b = record { holds = refl; next = refl }

pub wrote_beyond : (l : List ℕ) (at b : ℕ) → length l ≤ at → Wrote l l at (at + 1) (b ∷ [])
unfolding onto
wrote_beyond l at b h = record { holds = sym (set_out l at b h); next = refl }

onto_long : (t : List ℕ) (at : ℕ) (l : List ℕ) → length (onto t at l) ≡ length l
unfolding onto
onto_long [] at l = refl
onto_long (b ∷ t) at l = onto_long t (at + 1) (set l at b) ∙ length-set l at b

pub wrote_long : {l l' : List ℕ} {at at' : ℕ} {t : List ℕ} → Wrote l l' at at' t → length l' ≡ length l
wrote_long {l} {l'} {at} {at'} {t} w = ap length w.holds ∙ onto_long t at l

-- one text after another
onto_append : (t u : List ℕ) (at : ℕ) (l : List ℕ) → onto u (at + length t) (onto t at l) ≡ onto (t ++ u) at l
unfolding onto
onto_append [] u at l = ap (λ (n : ℕ). onto u n l) (add-zero at)
onto_append (b ∷ t) u at l =
    let e : at + length (b ∷ t) ≡ at + 1 + length t = omega arith in
    ap (λ (n : ℕ). onto u n (onto t (at + 1) (set l at b))) e ∙ onto_append t u (at + 1) (set l at b)

pub then : {l l₁ l₂ : List ℕ} {at at₁ at₂ : ℕ} {t u : List ℕ} → Wrote l l₁ at at₁ t → Wrote l₁ l₂ at₁ at₂ u → Wrote l l₂ at at₂ (t ++ u)
then {l} {at = at} {t = t} {u = u} a b =
    record { holds = b.holds ∙ ap₂ (onto u) a.next a.holds ∙ onto_append t u at l; next = rw length-append (omega (arith, a.next, b.next)) }

-- ---- the same on a page

pub says_none : (p : Page) → Says p p []
says_none p = record { same = refl; wrote = wrote_none p.out.now p.at }

pub says_then : {p p₁ p₂ : Page} {t u : List ℕ} → Says p p₁ t → Says p₁ p₂ u → Says p p₂ (t ++ u)
says_then a b = record { same = b.same ∙ a.same; wrote = then a.wrote b.wrote }

-- one byte, where the room has its place, and where it has not
pub says_one : (p : Page) (b : ℕ) → Says p record { out = record p.out { now = set p.out.now p.at b }; at = p.at + 1 } (b ∷ [])
says_one p b = record { same = refl; wrote = wrote_one p.out.now p.at b }

pub says_beyond : (p : Page) (b : ℕ) → length p.out.now ≤ p.at → Says p record { out = p.out; at = p.at + 1 } (b ∷ [])
says_beyond p b h = record { same = refl; wrote = wrote_beyond p.out.now p.at b h }

-- where the text is another's
pub says_as : {p p' : Page} {t u : List ℕ} → u ≡ t → Says p p' t → Says p p' u
says_as e a = rw e a

-- ---- digits

pub digits_short : (b stop f n : ℕ) → length (digits_of b stop f n) ≤ f
unfolding digits_of
digits_short b stop zero n = omega arith
digits_short b stop (suc f) n = rw length-append (go (ltb n stop) (digits_short b stop f (n / b)))
  where
    go : (s : Bool) → length (digits_of b stop f (n / b)) ≤ f → length (cond s [] (digits_of b stop f (n / b))) + 1 ≤ suc f
    go true h = omega arith
    go false h = omega arith

pub digits_none : (b stop f n : ℕ) → f ≡ 0 → digits_of b stop f n ≡ []
unfolding digits_of
digits_none b stop zero n h = refl
digits_none b stop (suc f) n h = absurd (omega arith)

pub digits_first : (b stop f n d : ℕ) → 0 < f → n < stop → d ≡ glyph_of (n % b) → digits_of b stop f n ≡ d ∷ []
unfolding digits_of
digits_first b stop zero n d h p g = absurd (omega arith)
digits_first b stop (suc f) n d h p g = rw (lt-ltb n stop p, ← g)

pub digits_more : (b stop f n d : ℕ) → 0 < f → stop ≤ n → d ≡ glyph_of (n % b) → digits_of b stop f n ≡ digits_of b stop (f - 1) (n / b) ++ (d ∷ [])
unfolding digits_of
digits_more b stop zero n d h p g = absurd (omega arith)
digits_more b stop (suc f) n d h p g = rw (le-ltb n stop p, ← g, sub-one)

-- ---- a text as it is copied

pub text_more : {p p₁ p₂ : Page} (t : List ℕ) (j : ℕ) → j < length t → Says p p₁ (take j t) → Says p₁ p₂ (get_or t j 0 ∷ []) → Says p p₂ (take (j + 1) t)
text_more t j h a b = rw (add-one j, take-suc t j 0 h) (says_then a b)

pub text_done : {p p' : Page} (t : List ℕ) (j : ℕ) → length t ≤ j → Says p p' (take j t) → Says p p' t
text_done t j h a = rw (take_all j t h) at a

-- ---- a space and the text of each value

module _ {A : Type 0} (text : A → List ℕ) where
  each_append : (xs ys : List A) → each text (xs ++ ys) ≡ each text xs ++ each text ys
  unfolding each
  each_append [] ys = refl
  each_append (x ∷ xs) ys =
      ap (λ (l : List ℕ). 32 ∷ (text x ++ l)) (each_append xs ys) ∙ ap (λ (l : List ℕ). 32 ∷ l) (sym (append_assoc (text x) (each text xs) (each text ys)))

  each_last : (xs : List A) (x : A) → each text (xs ++ (x ∷ [])) ≡ each text xs ++ (32 ∷ text x)
  unfolding each
  each_last xs x = each_append xs (x ∷ []) ∙ rw append-nil

  pub each_more : {p p₁ p₂ p₃ : Page} (xs : List A) (j : ℕ) (d : A) → j < length xs → Says p p₁ (each text (take j xs)) → Says p₁ p₂ (32 ∷ []) → Says p₂ p₃ (text (get_or xs j d)) → Says p p₃ (each text (take (j + 1) xs))
  each_more xs j d h a b c = says_as (rw (add-one j, take-suc xs j d h) (each_last (take j xs) (get_or xs j d))) (says_then a (says_then b c))

  pub each_done : {p p' : Page} (xs : List A) (j : ℕ) → length xs ≤ j → Says p p' (each text (take j xs)) → Says p p' (each text xs)
  each_done xs j h a = rw (take_all j xs h) at a

-- ---- a text that a loop writes, one piece a turn

module _ (f : ℕ → List ℕ) where
  -- the pieces of the first n turns
  abbrev pub pieces : ℕ → List ℕ
  pieces n = turns (λ i t. t ++ f i) n 0 []

  pub piece_more : {p p₁ p₂ : Page} {t : List ℕ} (j : ℕ) → t ≡ f j → Says p p₁ (pieces j) → Says p₁ p₂ t → Says p p₂ (pieces (j + 1))
  piece_more {t = t} j e a b =
      says_as
      (rw (add-one j) (turns_last (λ (i : ℕ) (t : List ℕ). t ++ f i) j 0 [] ∙ ap (λ (x : List ℕ). pieces j ++ x) (ap f (zero-add j) ∙ sym e)))
      (says_then a b)

  pub piece_done : {p p' : Page} (j n : ℕ) → j ≡ n → Says p p' (pieces j) → Says p p' (for 0 n (λ i t. t ++ f i) [])
  piece_done j n e a = rw (sub-zero n, ← e) a

-- ---- numbers in groups of four, as the code cuts them out

four_at : {A : Type 0} (k i : ℕ) (xs : List A) (d : List A) → i < k → get_or (first_chunks 4 k xs) i d ≡ take 4 (drop (4 * i) xs)
four_at zero i xs d h = absurd (omega arith)
four_at (suc k) zero xs d h = refl
four_at (suc k) (suc i) xs d h =
    let e : 4 + 4 * i ≡ 4 * suc i = omega arith in
    four_at k i (drop 4 xs) d (omega arith) ∙ ap (take 4) (drop-drop (4 * i) 4 xs ∙ ap (λ n. drop n xs) e)

pub four_cut : {A : Type 0} (xs : List A) (cut : List (List A)) → cut ≡ first_chunks 4 (length xs / 4) xs → (i : ℕ) → i < length xs / 4
    → (get_or cut i [] ≡ take 4 (drop (4 * i) xs)) × (length (get_or cut i []) ≡ 4)
four_cut xs cut e i h =
    let at = ap (λ c. get_or c i []) e ∙ four_at (length xs / 4) i xs [] h in
    (at, ap length at ∙ length-take-le 4 (drop (4 * i) xs) (omega (arith, length-drop (4 * i) xs)))

-- ---- a whole text

-- a text from a place on, behind what stands in front of it
onto_front : (t p l : List ℕ) (at : ℕ) → at ≡ length p → length t ≤ length l → onto t at (p ++ l) ≡ p ++ (t ++ drop (length t) l)
unfolding onto
onto_front [] p l at e h = refl
onto_front (b ∷ t) p [] at e h = absurd (omega arith)
onto_front (b ∷ t) p (x ∷ l) at e h =
    let k : at + 1 ≡ length (p ++ (b ∷ [])) = rw length-append (omega arith) in
    ap (onto t (at + 1)) (ap (λ (n : ℕ). set (p ++ (x ∷ l)) n b) e ∙ set-append_seam p x l b ∙ sym (append_assoc p (b ∷ []) l))
    ∙ onto_front t (p ++ (b ∷ [])) l (at + 1) k (omega arith) ∙ append_assoc p (b ∷ []) (t ++ drop (length t) l)

module _ {n n' t : List ℕ} {size : ℕ} (m : Wrote n n' 0 size t) where
  long : size ≡ length t
  long = m.next ∙ zero-add (length t)

  -- a text that was measured is written where the room holds it ..
  pub handed : {l l' : List ℕ} {r : ℕ} → size ≤ length l → Wrote l l' 0 r t → (size ≡ length t) × (l' ≡ placed t l)
  handed {l} h w =
      let fits : length t ≤ length l = omega (arith, h, long) in
      (long, if_true _ (le-leb (length t) (length l) fits) (w.holds ∙ onto_front t [] l 0 refl fits))

  -- .. and else the room is as it was
  pub withheld : (l : List ℕ) → length l < size → (size ≡ length t) × (l ≡ placed t l)
  withheld l h =
      let short : length l < length t = omega (arith, h, long) in
      (long, if_false _ (lt-leb (length t) (length l) short) refl)

pub empty : (o t : List ℕ) → t ≡ [] → o ≡ placed t o
empty o t e = sym (ap (λ (x : List ℕ). placed x o) e ∙ sym (if_true o (le-leb 0 (length o) (omega arith)) refl))
