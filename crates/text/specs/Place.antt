-- What it means to write text into a lent buffer. Definitions only.
use Rattle.std.specs.Prelude.{ℕ, ◌+◌, ◌≡◌, List, [], ◌∷◌, leb, length, set}
use Rattle.laws.specs.Choice.{unless}
use Rattle.laws.specs.Room.{at_front}
use Rattle.text.specs.declared.page.Page.{Page}

-- a text is written whole, at the front, where the room holds it; else nothing is
abbrev pub placed : List ℕ → List ℕ → List ℕ
placed text before = unless (leb (length text) (length before)) before (at_front text before)

-- a text is written from a place on; what lies beyond the end of the room is left out
unfoldable pub onto : List ℕ → ℕ → List ℕ → List ℕ
onto [] at before = before
onto (b ∷ text) at before = onto text (at + 1) (set before at b)

-- inside: text t was written from a place on; the buffer held l and holds l', and the next place is at'
pub record Wrote (l l' : List ℕ) (at at' : ℕ) (t : List ℕ) : Type 0 where
  pub holds : l' ≡ onto t at l
  pub next : at' ≡ at + length t

-- a page had text t written on it, and is on the same buffer
pub record Says (p p' : Page) (t : List ℕ) : Type 0 where
  pub same : p'.out.ghost_name ≡ p.out.ghost_name
  pub wrote : Wrote p.out.now p'.out.now p.at p'.at t

-- no answer is longer
abbrev pub longest : ℕ
longest = 24768
