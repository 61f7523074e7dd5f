-- A column as it fills up: f of what is kept so far stands at its front. Assumes nothing.
use Prim.Native.Nat.{ℕ, ◌+◌, ◌<◌, ◌≤◌}
use mathlib.Core.Path.{◌≡◌, refl, sym, ap, ◌∙◌}
use mathlib.Core.List.{List, [], ◌∷◌, ◌++◌, map, append_assoc, append-nil}
use native.Mathlib.Omega.{arith}
use native.Mathlib.Numerals.{add-one}
use lib.ListN.{length, take, drop, set, length-set, length-map, take-append-drop}
use lib.Seq.{take-suc-set, drop-set-lt, drop-drop, length-take-le}
use Rattle.laws.specs.Room.{at_front}
use Rattle.house.specs.declared.Quote.{Quote}

-- of all the records to keep, `rest` are still to come, and m stand in the column
pub record Column {A : Type 0} (f : Quote → A) (all rest : List Quote) (m : ℕ) (before after : List A) : Type 0 where
  pub done : map f all ≡ take m after ++ map f rest
  pub beyond : drop m after ≡ drop m before
  pub long : length after ≡ length before

module _ {A : Type 0} (f : Quote → A) where
  pub column_start : (all rest : List Quote) (l : List A) → rest ≡ all → Column f all rest 0 l l
  column_start all rest l e = record { done = ap (map f) (sym e); beyond = refl; long = refl }

  -- a turn that keeps nothing, and one that stores v, which is f of the record q
  pub column_skip : (all rest rest' : List Quote) (m m' : ℕ) (l₀ l l' : List A) → rest ≡ rest' → l' ≡ l → m' ≡ m → Column f all rest m l₀ l → Column f all rest' m' l₀ l'
  column_skip all rest rest' m m' l₀ l l' e p r c = rw (p, r, ← e) c

  pub column_keep : (all rest rest' : List Quote) (q : Quote) (v : A) (m m' : ℕ) (l₀ l l' : List A) → m < length l → rest ≡ q ∷ rest' → v ≡ f q → l' ≡ set l m v → m' ≡ m + 1 → Column f all rest m l₀ l → Column f all rest' m' l₀ l'
  column_keep all rest rest' q v m m' l₀ l l' h e x p r c =
      rw (p, r, x)
      record {
        done = c.done ∙ rw (e, add-one, take-suc-set, append_assoc);
        beyond = drop-set-lt (m + 1) l m (f q) (omega arith) ∙ sym (drop-drop 1 m l) ∙ ap (drop 1) c.beyond ∙ drop-drop 1 m l₀;
        long = rw length-set c.long;
      }

  pub column_end : (all rest : List Quote) (m : ℕ) (l₀ l : List A) → m ≤ length l → rest ≡ [] → Column f all rest m l₀ l → (m ≡ length all) × (l ≡ at_front (map f all) l₀)
  column_end all rest m l₀ l h e c =
      let front : map f all ≡ take m l = c.done ∙ rw (e, append-nil) in
      let count : m ≡ length (map f all) = sym (length-take-le m l h) ∙ ap length (sym front) in
      (count ∙ length-map all f, sym (take-append-drop m l) ∙ rw (← front, c.beyond, count))
