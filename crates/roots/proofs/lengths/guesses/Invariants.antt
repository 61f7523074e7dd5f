-- `roots::lengths::guesses` meets its contract: what it writes is written over. Assumes nothing.
use mathlib.Core.Path.{◌≡◌}
use Prim.Native.Nat.{ℕ, ◌-◌}
use lib.Ieee.{Float}
use Rattle.laws.specs.Room.{filled_on}
use Rattle.roots.proofs.lengths.guesses.Given as goal

abbrev pub invariant-loop-i : goal.invariant-loop-i
invariant-loop-i l = (v : ℕ → Float) → filled_on l.n v l.hs ≡ filled_on l.n v l.initial.hs

abbrev pub decreases-loop-i : goal.decreases-loop-i
decreases-loop-i l = l.n - l.i
