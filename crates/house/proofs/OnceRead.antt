-- The file that holds only the first of each record, read: the same settings and tau, and the records that the file with repeats keeps.
use Prim.Native.Nat.{ℕ, zero, suc, ◌+◌, ◌*◌, ◌<◌, ◌≤◌, ◌^◌}
use mathlib.Core.Path.{◌≡◌, refl, sym, ap, ◌∙◌}
use mathlib.Core.Bool.{Bool, true, false}
use mathlib.Core.List.{List, [], ◌∷◌, ◌++◌}
use native.Mathlib.Omega.{arith}
use native.Mathlib.Nat.{add-zero}
use lib.ListN.{length, get_or}
use Rattle.laws.specs.Floats.{f64}
use Rattle.bits.specs.Bytes.{u64_at}
use Rattle.house.specs.declared.Quote.{Quote}
use Rattle.house.specs.File.{File, house_of, f64_at, tau_place, tau_of, settings_at, config_of, quote_at, quotes, records_at}
use Rattle.house.specs.Repeats.{among, unrepeated, kept_after, kept}
use Rattle.house.specs.Taken.{kept_for, kept_of}
use Rattle.house.specs.Encode.{file_bytes, Bytes, Wide, AllWide, words_from, once_for, once_of}
use Rattle.house.proofs.Files.{file_is, quotes_length}
use Rattle.house.proofs.Once.{kept_once, kept_short}
use Rattle.house.proofs.ReadBack.{settings_same, house_back, settings_back, tau_back, records_back}

-- ---- what is read from bytes has 64 bits

u64_wide : (s : List ℕ) → Bytes s → (at : ℕ) → u64_at s at < 2 ^ 64
unfolding u64_at
u64_wide s b at = omega (arith, b at, b (at + 1), b (at + 2), b (at + 3), b (at + 4), b (at + 4 + 1), b (at + 4 + 2), b (at + 4 + 3))

quotes_wide : (s : List ℕ) → Bytes s → (at n : ℕ) → AllWide (quotes s at n)
unfolding quotes quote_at AllWide Wide
quotes_wide s b at zero = tt
quotes_wide s b at (suc n) = ((u64_wide s b at, (u64_wide s b (at + 8), (u64_wide s b (at + 16), (u64_wide s b (at + 24), tt)))), quotes_wide s b (at + 32) n)

after_wide : (es qs : List Quote) → AllWide qs → AllWide (kept_after es qs)
unfolding kept_after unrepeated AllWide
after_wide es [] h = tt
after_wide es (q ∷ qs) h = go (among q es) (after_wide (es ++ (q ∷ [])) qs h.1)
  where
    go : (b : Bool) → AllWide (kept_after (es ++ (q ∷ [])) qs) → AllWide (unrepeated b q ++ kept_after (es ++ (q ∷ [])) qs)
    go true f = f
    go false f = (h.0, f)

kept_wide : (qs : List Quote) → AllWide qs → AllWide (kept qs)
unfolding kept
kept_wide qs h = after_wide [] qs h

words_length : (s : List ℕ) (at n : ℕ) → length (words_from s at n) ≡ n
unfolding words_from
words_length s at zero = refl
words_length s at (suc n) = ap suc (words_length s (at + 8) n)

words_wide : (s : List ℕ) → Bytes s → (at n : ℕ) → Wide (words_from s at n)
unfolding words_from Wide
words_wide s b at zero = tt
words_wide s b at (suc n) = (u64_wide s b at, words_wide s b (at + 8) n)

words_at : (s : List ℕ) (at n i : ℕ) → i < n → get_or (words_from s at n) i 0 ≡ u64_at s (at + 8 * i)
unfolding words_from
words_at s at zero i l = absurd (omega arith)
words_at s at (suc n) zero l = ap (u64_at s) (sym (add-zero at))
words_at s at (suc n) (suc i) l =
    let e : at + 8 + 8 * i ≡ at + 8 * suc i = omega arith in
    words_at s (at + 8) n i (omega arith) ∙ ap (u64_at s) e

-- ---- the file

module _ (s : List ℕ) (b : Bytes s) (v n : ℕ) (e : File v n ≡ house_of s) where
  abbrev all : List Quote
  all = records_at s v n

  abbrev written : List ℕ
  written = file_bytes v (words_from s 4 (11 * v)) (u64_at s (tau_place v)) (kept all)

  once_is : written ≡ once_of s
  unfolding once_of
  once_is = ap (once_for s) e

  few : length (kept all) ≤ n
  few = omega (arith, kept_short all, quotes_length s (20 + 88 * v) n)

  small : v ≤ 1
  small = (file_is s v n e).0

  within : n ≤ 256
  within = (file_is s v n e).1

  short : length (kept all) ≤ 256
  short = omega (arith, few, within)

  pub once_house : house_of (once_of s) ≡ File v (length (kept (records_at s v n)))
  once_house = ap house_of (sym once_is) ∙ house_back v (words_from s 4 (11 * v)) (u64_at s (tau_place v)) (kept all) small (words_length s 4 (11 * v)) short

  pub once_records : records_at (once_of s) v (length (kept (records_at s v n))) ≡ kept (records_at s v n)
  once_records =
      ap (λ (x : List ℕ). records_at x v (length (kept all))) (sym once_is)
      ∙ records_back v (words_from s 4 (11 * v)) (u64_at s (tau_place v)) (kept all) small (words_length s 4 (11 * v)) short (kept_wide all (quotes_wide s b (20 + 88 * v) n))

  pub once_kept : kept_of (once_of s) ≡ kept_of s
  unfolding kept_of
  once_kept = ap (kept_for (once_of s)) once_house ∙ ap kept once_records ∙ kept_once all ∙ ap (kept_for s) e

  tau_same : u64_at (once_of s) (8 + 88 * v) ≡ u64_at s (tau_place v)
  tau_same =
      ap (λ (x : List ℕ). u64_at x (8 + 88 * v)) (sym once_is)
      ∙ tau_back v (words_from s 4 (11 * v)) (u64_at s (tau_place v)) (kept all) small (words_length s 4 (11 * v)) short (u64_wide s b (tau_place v))

  word_same : (i : ℕ) → i < 11 * v → u64_at (once_of s) (4 + 8 * i) ≡ u64_at s (4 + 8 * i)
  word_same i l =
      let k : i < length (words_from s 4 (11 * v)) = omega (arith, words_length s 4 (11 * v)) in
      ap (λ (x : List ℕ). u64_at x (4 + 8 * i)) (sym once_is)
      ∙ settings_back v (words_from s 4 (11 * v)) (u64_at s (tau_place v)) (kept all) small (words_length s 4 (11 * v)) short (words_wide s b 4 (11 * v)) i k
      ∙ words_at s 4 (11 * v) i l

-- the same words give the same tau and settings
tau_from : (s o : List ℕ) (v : ℕ) → v ≤ 1 → u64_at o (8 + 88 * v) ≡ u64_at s (tau_place v) → tau_of o v ≡ tau_of s v
unfolding tau_of f64_at
tau_from s o zero l e = ap f64 e
tau_from s o (suc zero) l e = ap f64 e
tau_from s o (suc (suc v)) l e = absurd (omega arith)

config_from : (s o : List ℕ) (v : ℕ) → v ≤ 1 → ((i : ℕ) → i < 11 * v → u64_at o (4 + 8 * i) ≡ u64_at s (4 + 8 * i)) → config_of o v ≡ config_of s v
unfolding config_of settings_at
config_from s o zero l e = refl
config_from s o (suc zero) l e = settings_same (λ i. u64_at o (4 + 8 * i)) (λ i. u64_at s (4 + 8 * i)) e
config_from s o (suc (suc v)) l e = absurd (omega arith)

module _ (s : List ℕ) (b : Bytes s) (v n : ℕ) (e : File v n ≡ house_of s) where
  pub once_tau : tau_of (once_of s) v ≡ tau_of s v
  once_tau = tau_from s (once_of s) v (small s b v n e) (tau_same s b v n e)

  pub once_config : config_of (once_of s) v ≡ config_of s v
  once_config = config_from s (once_of s) v (small s b v n e) (word_same s b v n e)
