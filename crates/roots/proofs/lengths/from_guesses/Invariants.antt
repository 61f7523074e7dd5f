-- `roots::lengths::from_guesses` meets its contract. Assumes nothing.
use mathlib.Core.Path.{◌≡◌}
use Prim.Native.Nat.{◌-◌}
use lib.ListN.{set}
use Rattle.laws.specs.Loop.{for}
use Rattle.laws.specs.Floats.{one, at}
use Rattle.laws.specs.Room.{filled_on}
use Rattle.roots.specs.Hypot.{hypot_of}
use Rattle.roots.proofs.lengths.from_guesses.Given as goal

abbrev pub invariant-loop-i : goal.invariant-loop-i
invariant-loop-i l = for l.i l.n (λ i t. set t i (hypot_of (at l.ys i) one)) l.hs ≡ filled_on l.n (λ i. hypot_of (at l.ys i) one) l.initial.hs

abbrev pub decreases-loop-i : goal.decreases-loop-i
decreases-loop-i l = l.n - l.i
