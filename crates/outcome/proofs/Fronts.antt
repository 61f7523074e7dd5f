-- A list that stands at the front of lent room. Assumes nothing.
use Prim.Native.Nat.{ℕ}
use mathlib.Core.Path.{◌≡◌, sym, ap, ◌∙◌}
use mathlib.Core.List.{List, map}
use lib.ListN.{length, take, drop, length-map}
use lib.Seq.{take_at}
use lib.Ieee.{Float}
use Rattle.laws.specs.Room.{at_front, written}
use Rattle.laws.proofs.Rooms.{wrote}
use Rattle.house.specs.declared.Quote.{Quote}

module _ {A : Type 0} (list l l' : List A) (e : l' ≡ at_front list l) (m : ℕ) (h : m ≡ length list) where
  -- so many elements are the list
  front : take m l' ≡ list
  front = ap (take m) e ∙ take_at list (drop (length list) l) m (sym h)

-- the list of an accepted answer
module _ {A : Type 0} (n : ℕ) (list l l' : List A) (e : l' ≡ written n list l) (z : n ≡ 0) (m : ℕ) (h : m ≡ length list) where
  pub written_front : take m l' ≡ list
  written_front = front list l l' (e ∙ sym (wrote n list l z)) m h

  pub written_long : m ≡ length (take m l')
  written_long = h ∙ sym (ap length written_front)

-- a column of some records
module _ (f : Quote → Float) (qs : List Quote) (l l' : List Float) (m : ℕ) (h : m ≡ length qs) (e : l' ≡ at_front (map f qs) l) where
  pub column_front : take m l' ≡ map f qs
  column_front = front (map f qs) l l' e m (h ∙ sym (length-map qs f))

  pub column_long : m ≡ length (take m l')
  column_long = h ∙ sym (length-map qs f) ∙ sym (ap length column_front)
