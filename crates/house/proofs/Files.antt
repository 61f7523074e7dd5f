-- What a well-formed file's counts are, and its records one by one. Assumes nothing.
use Prim.Native.Nat.{ℕ, zero, suc, ◌+◌, ◌*◌, ◌/◌, ◌-◌, ◌<◌, ◌≤◌}
use mathlib.Core.Path.{◌≡◌, refl, sym, ap, ◌∙◌}
use mathlib.Core.Bool.{Bool, true, false, ◌&&◌}
use mathlib.Core.List.{List, [], ◌∷◌, ◌++◌, map}
use native.Mathlib.Omega.{arith}
use native.Mathlib.Nat.{add_assoc, add-zero}
use native.Mathlib.Numerals.{sub-one}
use lib.ListN.{length, take, drop, length-drop}
use lib.Seq.{get_or-drop}
use Rattle.std.proofs.lemmas.List.{get_or-take}
use lib.Dec.{eqb, leb}
use borrow.Author.Tests.{leb-true, eqb-true}
use Rattle.laws.specs.Choice.{unless}
use Rattle.laws.proofs.Choices.{both}
use Rattle.bits.specs.Bytes.{u32_at, u64_at}
use Rattle.std.specs.Simd.{first_chunks}
use Rattle.std.specs.Prelude.{Option, None, Some}
use Rattle.house.specs.declared.Layout.{Layout}
use Rattle.house.specs.declared.Quote.{Quote}
use Rattle.house.specs.File.{File, house_of, house_with, quote_at, quote_of, quotes, records_at, records_of}

-- what the counts that were read say
pub read : (s : List ℕ) (c e n : ℕ) → c ≡ u32_at s 0 → e ≡ u32_at s (4 + 88 * c) → n ≡ u32_at s (16 + 88 * c) → house_of s ≡ house_with c e n (length s)
unfolding house_of
read s c e n p q r = rw (r, q, p)

-- the counts of a layout
abbrev settings_in : Option Layout → ℕ
settings_in None = 0
settings_in (Some h) = h.settings

abbrev count_in : Option Layout → ℕ
count_in None = 0
count_in (Some h) = h.count

-- the inverse
picked : (b : Bool) (c n v m : ℕ) → unless b None (File c n) ≡ File v m → (b ≡ true) × (c ≡ v) × (n ≡ m)
picked true c n v m h = (refl, ap settings_in h, ap count_in h)
picked false c n v m h = absurd (let z : ◌≡◌ {A = ℕ} 0 1 = cc in omega arith)

file_with : (c e n len v m : ℕ) → File v m ≡ house_with c e n len → (v ≤ 1) × (m ≤ 256) × (len ≡ 20 + 88 * v + 32 * m)
file_with c e n len v m h =
    let long = eqb len (20 + 88 * c + 32 * n) in
    let p = picked (leb c 1 && (eqb e 1 && (leb n 256 && long))) c n v m (sym h) in
    let q = both (leb c 1) (eqb e 1 && (leb n 256 && long)) p.0 in
    let r = both (leb n 256) long (both (eqb e 1) (leb n 256 && long) q.1).1 in
    (omega (arith, leb-true c 1 q.0), omega (arith, leb-true n 256 r.0), omega (arith, eqb-true len (20 + 88 * c + 32 * n) r.1))

pub file_is : (s : List ℕ) (v m : ℕ) → File v m ≡ house_of s → (v ≤ 1) × (m ≤ 256) × (length s ≡ 20 + 88 * v + 32 * m)
unfolding house_of
file_is s v m h = file_with (u32_at s 0) (u32_at s (4 + 88 * u32_at s 0)) (u32_at s (16 + 88 * u32_at s 0)) (length s) v m h

-- the first of n records, and the others
pub quotes_cons : (s : List ℕ) (at n : ℕ) → 0 < n → quotes s at n ≡ quote_at s at ∷ quotes s (at + 32) (n - 1)
unfolding quotes
quotes_cons s at zero h = absurd (omega arith)
quotes_cons s at (suc n) h = rw sub-one

-- all but the last of n records, and the last
pub quotes_snoc : (s : List ℕ) (at n : ℕ) → quotes s at (suc n) ≡ quotes s at n ++ (quote_at s (at + 32 * n) ∷ [])
unfolding quotes
quotes_snoc s at zero = rw add-zero
quotes_snoc s at (suc n) =
    let e : at + 32 + 32 * n ≡ at + 32 * suc n = omega arith in
    ap (λ (l : List Quote). quote_at s at ∷ l) (quotes_snoc s (at + 32) n ∙ ap (λ (p : ℕ). quotes s (at + 32) n ++ (quote_at s p ∷ [])) e)

pub quotes_length : (s : List ℕ) (at n : ℕ) → length (quotes s at n) ≡ n
unfolding quotes
quotes_length s at zero = refl
quotes_length s at (suc n) = ap suc (quotes_length s (at + 32) n)

-- ---- a file's records are the records of what stands behind its counts

u64_drop : (s : List ℕ) (from at : ℕ) → u64_at (drop from s) at ≡ u64_at s (from + at)
unfolding u64_at
u64_drop s from at = simp (add_assoc, get_or-drop)

quote_drop : (s : List ℕ) (from at : ℕ) → quote_at (drop from s) at ≡ quote_at s (from + at)
unfolding quote_at
quote_drop s from at = rw (u64_drop s from at, u64_drop s from (at + 8), u64_drop s from (at + 16), u64_drop s from (at + 24), add_assoc from at 8, add_assoc from at 16, add_assoc from at 24)

quotes_drop : (s : List ℕ) (from at n : ℕ) → quotes (drop from s) at n ≡ quotes s (from + at) n
unfolding quotes
quotes_drop s from at zero = refl
quotes_drop s from at (suc n) = rw (quote_drop s from at, quotes_drop s from (at + 32) n, add_assoc from at 32)

pub records_drop : (s : List ℕ) (v n : ℕ) → length s ≡ 20 + 88 * v + 32 * n → records_of (drop (20 + 88 * v) s) ≡ records_at s v n
records_drop s v n e =
    let from = 20 + 88 * v in
    let count : length (drop from s) / 32 ≡ n = rw length-drop (omega arith) in
    ap (quotes (drop from s) 0) count ∙ quotes_drop s from 0 n ∙ ap (λ (at : ℕ). quotes s at n) (add-zero from)

pub records_long : (s : List ℕ) → length (records_of s) ≡ length s / 32
records_long s = quotes_length s 0 (length s / 32)

-- ---- records cut out of bytes, 32 bytes each

u64_taken : (s : List ℕ) (n at : ℕ) → at + 8 ≤ n → u64_at (take n s) at ≡ u64_at s at
unfolding u64_at
u64_taken s n at h =
    rw (
      get_or-take n s at 0 (omega arith),
      get_or-take n s (at + 1) 0 (omega arith),
      get_or-take n s (at + 2) 0 (omega arith),
      get_or-take n s (at + 3) 0 (omega arith),
      get_or-take n s (at + 4) 0 (omega arith),
      get_or-take n s (at + 4 + 1) 0 (omega arith),
      get_or-take n s (at + 4 + 2) 0 (omega arith),
      get_or-take n s (at + 4 + 3) 0 (omega arith),
    )

quote_taken : (s : List ℕ) → quote_of (take 32 s) ≡ quote_of s
unfolding quote_at
quote_taken s = rw (u64_taken s 32 0 (omega arith), u64_taken s 32 8 (omega arith), u64_taken s 32 16 (omega arith), u64_taken s 32 24 (omega arith))

pub quotes_cut : (s : List ℕ) (n : ℕ) → map quote_of (first_chunks 32 n s) ≡ quotes s 0 n
unfolding quotes
quotes_cut s zero = refl
quotes_cut s (suc n) = rw (quote_taken s, quotes_cut (drop 32 s) n, quotes_drop s 32 0 n)

pub records_cut : (s : List ℕ) → map quote_of (first_chunks 32 (length s / 32) s) ≡ records_of s
records_cut s = quotes_cut s (length s / 32)
