-- `cell::least::fill_ys` meets its contract. Assumes nothing.
use mathlib.Core.Path.{◌≡◌}
use Prim.Native.Nat.{◌-◌}
use lib.ListN.{set, length}
use Rattle.laws.specs.Loop.{for}
use Rattle.laws.specs.Room.{filled_on}
use Rattle.cell.specs.Least.{y_of}
use Rattle.cell.proofs.least.fill_ys.Given as goal

abbrev pub invariant-loop-i : goal.invariant-loop-i
invariant-loop-i l = for l.i (length l.ks) (λ i t. set t i (y_of l.ks l.m l.sigma i)) l.ys ≡ filled_on (length l.ks) (y_of l.ks l.m l.sigma) l.initial.ys

abbrev pub decreases-loop-i : goal.decreases-loop-i
decreases-loop-i l = length l.ks - l.i
