-- What is written in the house format is read back: counts, settings, tau and records. Assumes nothing.
use Prim.Native.Nat.{ℕ, zero, suc, ◌+◌, ◌*◌, ◌<◌, ◌≤◌, ◌^◌}
use mathlib.Core.Path.{◌≡◌, refl, sym, ap, ◌∙◌}
use mathlib.Core.List.{List, [], ◌∷◌, ◌++◌, append_assoc}
use native.Mathlib.Omega.{arith}
use native.Mathlib.Nat.{add_assoc, add-zero}
use lib.ListN.{length, get_or, length-append}
use lib.Seq.{get_or-append-add}
use borrow.Author.Tests.{le-leb, eq-eqb}
use Rattle.bits.specs.Bytes.{u32_at, u64_at}
use Rattle.house.specs.declared.Quote.{Quote}
use Rattle.house.specs.File.{File, house_of, settings_by, quote_at, quotes}
use Rattle.house.specs.Encode.{le, words_bytes, words_of, quotes_bytes, file_bytes, Wide, AllWide}
use Rattle.house.proofs.Files.{read}

-- ---- numbers

-- reading past a front
u32_past : (p t : List ℕ) (i : ℕ) → u32_at (p ++ t) (length p + i) ≡ u32_at t i
u32_past p t i = simp (add_assoc, get_or-append-add)

u64_past : (p t : List ℕ) (i : ℕ) → u64_at (p ++ t) (length p + i) ≡ u64_at t i
unfolding u64_at
u64_past p t i = ap (λ (x : ℕ). x + 4294967296 * u32_at (p ++ t) (length p + i + 4)) (u32_past p t i) ∙ ap (λ (x : ℕ). u32_at t i + 4294967296 * x) (rw (add_assoc (length p) i 4) (u32_past p t (i + 4)))

u32_front : (n : ℕ) (t : List ℕ) → n < 4294967296 → u32_at (le 4 n ++ t) 0 ≡ n
u32_front n t h = omega arith

u64_front : (n : ℕ) (t : List ℕ) → n < 2 ^ 64 → u64_at (le 8 n ++ t) 0 ≡ n
unfolding u64_at
u64_front n t h = omega arith

-- a number after a front, whatever follows it
u32_at_lem : (p : List ℕ) (n : ℕ) (t : List ℕ) (i : ℕ) → n < 4294967296 → i ≡ length p → u32_at (p ++ (le 4 n ++ t)) i ≡ n
u32_at_lem p n t i h e = rw (e, ← add-zero (length p)) (u32_past p (le 4 n ++ t) 0 ∙ u32_front n t h)

u64_at_lem : (p : List ℕ) (n : ℕ) (t : List ℕ) (i : ℕ) → n < 2 ^ 64 → i ≡ length p → u64_at (p ++ (le 8 n ++ t)) i ≡ n
u64_at_lem p n t i h e = rw (e, ← add-zero (length p)) (u64_past p (le 8 n ++ t) 0 ∙ u64_front n t h)

-- ---- words

words_long : (ns : List ℕ) → length (words_bytes ns) ≡ 8 * length ns
unfolding words_bytes
words_long [] = refl
words_long (n ∷ ns) = rw length-append (omega (arith, words_long ns))

-- the i-th of some words after a front
words_back : (p ns t : List ℕ) (i at : ℕ) → Wide ns → i < length ns → at ≡ length p + 8 * i → u64_at (p ++ (words_bytes ns ++ t)) at ≡ get_or ns i 0
unfolding words_bytes Wide
words_back p [] t i at h l e = absurd (omega arith)
words_back p (n ∷ ns) t zero at h l e =
    ap (λ (s : List ℕ). u64_at (p ++ s) at) (append_assoc (le 8 n) (words_bytes ns) t) ∙ u64_at_lem p n (words_bytes ns ++ t) at h.0 (omega arith)
words_back p (n ∷ ns) t (suc i) at h l e =
    let b = le 8 n in
    let x : p ++ ((b ++ words_bytes ns) ++ t) ≡ (p ++ b) ++ (words_bytes ns ++ t) = simp append_assoc in
    let f : at ≡ length (p ++ b) + 8 * i = rw length-append (omega arith) in
    ap (λ (s : List ℕ). u64_at s at) x ∙ words_back (p ++ b) ns t i at h.1 (omega arith) f

-- ---- records

quote_back : (p : List ℕ) (q : Quote) (t : List ℕ) → Wide (words_of q) → quote_at (p ++ (words_bytes (words_of q) ++ t)) (length p) ≡ q
unfolding quote_at
quote_back p q t h =
    whole (words_back p ns t 0 _ h (omega arith) (omega arith)) (words_back p ns t 1 _ h (omega arith) (omega arith)) (words_back p ns t 2 _ h (omega arith) (omega arith)) (words_back p ns t 3 _ h (omega arith) (omega arith))
  where
    ns : List ℕ
    ns = words_of q

    whole : {n k w z : ℕ} → n ≡ q.number → k ≡ q.k → w ≡ q.w → z ≡ q.weight → ◌≡◌ {A = Quote} record { number = n; k = k; w = w; weight = z } q
    whole x y u v = rw (x, y, u, v)

bytes_long : (qs : List Quote) → length (quotes_bytes qs) ≡ 32 * length qs
unfolding quotes_bytes
bytes_long [] = refl
bytes_long (q ∷ qs) = rw length-append (omega (arith, words_long (words_of q), bytes_long qs))

quotes_back : (p : List ℕ) (qs : List Quote) (at : ℕ) → AllWide qs → at ≡ length p → quotes (p ++ quotes_bytes qs) at (length qs) ≡ qs
unfolding quotes quotes_bytes AllWide
quotes_back p [] at h e = refl
quotes_back p (q ∷ qs) at h e =
    let b = words_bytes (words_of q) in
    let f : at + 32 ≡ length (p ++ b) = rw length-append (omega (arith, words_long (words_of q))) in
    let x : p ++ (b ++ quotes_bytes qs) ≡ (p ++ b) ++ quotes_bytes qs = sym (append_assoc p b (quotes_bytes qs)) in
    cons (ap (quote_at (p ++ (b ++ quotes_bytes qs))) e ∙ quote_back p q (quotes_bytes qs) h.0) (ap (λ (s : List ℕ). quotes s (at + 32) (length qs)) x ∙ quotes_back (p ++ b) qs (at + 32) h.1 f)
  where
    cons : {x y : Quote} {xs ys : List Quote} → x ≡ y → xs ≡ ys → x ∷ xs ≡ y ∷ ys
    cons u v = rw (u, v)

-- ---- the settings

pub settings_same : (f g : ℕ → ℕ) → ((i : ℕ) → i < 11 → f i ≡ g i) → settings_by f ≡ settings_by g
settings_same f g h =
    rw (
      h 0 (omega arith),
      h 1 (omega arith),
      h 2 (omega arith),
      h 3 (omega arith),
      h 4 (omega arith),
      h 5 (omega arith),
      h 6 (omega arith),
      h 7 (omega arith),
      h 8 (omega arith),
      h 9 (omega arith),
      h 10 (omega arith),
    )

-- ---- the whole file

module _ (a ss b d e t : List ℕ) where
  at₁ : a ++ (ss ++ (b ++ (d ++ (e ++ t)))) ≡ (a ++ ss) ++ (b ++ (d ++ (e ++ t)))
  at₁ = simp append_assoc

  at₂ : a ++ (ss ++ (b ++ (d ++ (e ++ t)))) ≡ (a ++ (ss ++ b)) ++ (d ++ (e ++ t))
  at₂ = simp append_assoc

  at₃ : a ++ (ss ++ (b ++ (d ++ (e ++ t)))) ≡ (a ++ (ss ++ (b ++ d))) ++ (e ++ t)
  at₃ = simp append_assoc

  at₄ : a ++ (ss ++ (b ++ (d ++ (e ++ t)))) ≡ (a ++ (ss ++ (b ++ (d ++ e)))) ++ t
  at₄ = simp append_assoc

  all_long : length (a ++ (ss ++ (b ++ (d ++ (e ++ t))))) ≡ length a + (length ss + (length b + (length d + (length e + length t))))
  all_long = simp length-append

module _ (c : ℕ) (words : List ℕ) (tau : ℕ) (qs : List Quote) (hc : c ≤ 1) (hs : length words ≡ 11 * c) (hq : length qs ≤ 256) where
  file : List ℕ
  file = file_bytes c words tau qs

  settings_long : length (words_bytes words) ≡ 88 * c
  settings_long = omega (arith, words_long words)

  -- the counts
  pub house_back : house_of (file_bytes c words tau qs) ≡ File c (length qs)
  unfolding file_bytes file
  house_back =
      let a = le 4 c in
      let ss = words_bytes words in
      let b = le 4 1 in
      let d = le 8 tau in
      let e = le 4 (length qs) in
      let t = quotes_bytes qs in
      let r₁ : c ≡ u32_at file 0 = sym (u32_front c (ss ++ (b ++ (d ++ (e ++ t)))) (omega arith)) in
      let r₂ : 1 ≡ u32_at file (4 + 88 * c) = sym (ap (λ (l : List ℕ). u32_at l (4 + 88 * c)) (at₁ a ss b d e t) ∙ u32_at_lem (a ++ ss) 1 (d ++ (e ++ t)) (4 + 88 * c) (omega arith) (rw length-append (omega (arith, settings_long)))) in
      let r₃ : length qs ≡ u32_at file (16 + 88 * c) = sym (ap (λ (l : List ℕ). u32_at l (16 + 88 * c)) (at₃ a ss b d e t) ∙ u32_at_lem (a ++ (ss ++ (b ++ d))) (length qs) t (16 + 88 * c) (omega arith) (simp length-append (omega (arith, settings_long)))) in
      let long : length file ≡ 20 + 88 * c + 32 * length qs = all_long a ss b d e t ∙ omega (arith, bytes_long qs, settings_long) in
      read file c 1 (length qs) r₁ r₂ r₃ ∙ simp (le-leb c 1 hc, le-leb (length qs) 256 hq, eq-eqb _ _ long)

  -- the settings
  pub settings_back : Wide words → (i : ℕ) → i < length words → u64_at (file_bytes c words tau qs) (4 + 8 * i) ≡ get_or words i 0
  unfolding file_bytes
  settings_back w i l = words_back (le 4 c) words (le 4 1 ++ (le 8 tau ++ (le 4 (length qs) ++ quotes_bytes qs))) i (4 + 8 * i) w l refl

  -- tau
  pub tau_back : tau < 2 ^ 64 → u64_at (file_bytes c words tau qs) (8 + 88 * c) ≡ tau
  unfolding file_bytes
  tau_back w =
      let a = le 4 c in
      let ss = words_bytes words in
      let b = le 4 1 in
      let d = le 8 tau in
      let e = le 4 (length qs) in
      let t = quotes_bytes qs in
      ap (λ (l : List ℕ). u64_at l (8 + 88 * c)) (at₂ a ss b d e t) ∙ u64_at_lem (a ++ (ss ++ b)) tau (e ++ t) (8 + 88 * c) w (simp length-append (omega (arith, settings_long)))

  -- the records
  pub records_back : AllWide qs → quotes (file_bytes c words tau qs) (20 + 88 * c) (length qs) ≡ qs
  unfolding file_bytes
  records_back h =
      let a = le 4 c in
      let ss = words_bytes words in
      let b = le 4 1 in
      let d = le 8 tau in
      let e = le 4 (length qs) in
      ap (λ (l : List ℕ). quotes l (20 + 88 * c) (length qs)) (at₄ a ss b d e (quotes_bytes qs))
      ∙ quotes_back (a ++ (ss ++ (b ++ (d ++ e)))) qs (20 + 88 * c) h (simp length-append (omega (arith, settings_long)))
