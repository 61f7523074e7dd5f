-- Lists of records, padded. Assumes nothing.
use mathlib.Core.Path.{◌≡◌, refl, sym, ◌∙◌, ap}
use Prim.Native.Nat.{ℕ, zero, suc, ◌+◌, ◌<◌, zero-le}
use native.Mathlib.Numerals.{add-one}
use native.Mathlib.Omega.{arith}
use mathlib.Core.Bool.{Bool, true, false}
use mathlib.Core.List.{List, [], ◌∷◌, ◌++◌}
use lib.Dec.{ltb, leb-suc-suc}
use lib.ListN.{length, take, get_or, length-append}
use lib.Seq.{take-suc}
use borrow.Author.Tests.{lt-ltb, le-ltb}
use Rattle.slice.specs.declared.SviSlice.{SviSlice}
use Rattle.slice.specs.Slice.{no_slice}
use Rattle.surface.specs.Runs.{pad, run_of}
use Rattle.surface.specs.Inner.{kept_if, pushed}

-- `compare` is stuck at a variable
ltb_suc : (m n : ℕ) → ltb (suc m) (suc n) ≡ ltb m n
ltb_suc m n = leb-suc-suc (suc m) n

kept_later : (b : Bool) (y : SviSlice) (ys : List SviSlice) (i : ℕ) (x : SviSlice) → kept_if b (y ∷ ys) (suc i) x ≡ y ∷ kept_if b ys i x
kept_later true y ys i x = refl
kept_later false y ys i x = refl

kept_pad : (n : ℕ) (ys : List SviSlice) (x : SviSlice) → kept_if (ltb (length ys) n) (pad n ys) (length ys) x ≡ pad n (ys ++ x ∷ [])
unfolding pad
kept_pad zero ys x = rw (le-ltb (length ys) 0 zero-le)
kept_pad (suc n) [] x = rw (lt-ltb 0 (suc n) (omega arith))
kept_pad (suc n) (y ∷ ys) x = rw (ltb_suc (length ys) n) (kept_later (ltb (length ys) n) y (pad n ys) (length ys) x ∙ ap (λ (l : List SviSlice). y ∷ l) (kept_pad n ys x))

push_is : (ys : List SviSlice) (x : SviSlice) → pushed (run_of ys) x ≡ run_of (ys ++ x ∷ [])
push_is ys x = λ i. record { count = sym (length-append ys (x ∷ [])) i; recs = kept_pad 32 ys x i }

-- one more record of a list
pub push_next : (xs : List SviSlice) (i : ℕ) → i < length xs → pushed (run_of (take i xs)) (get_or xs i no_slice) ≡ run_of (take (i + 1) xs)
push_next xs i h = push_is (take i xs) (get_or xs i no_slice) ∙ ap run_of (rw (add-one, take-suc xs i no_slice))
