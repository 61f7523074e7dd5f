-- `cell::trial::slot` meets its contract. Assumes nothing.
use mathlib.Core.Path.{◌≡◌}
use Prim.Native.Nat.{◌+◌, ◌-◌, ◌*◌}
use lib.ListN.{set}
use Rattle.laws.specs.Loop.{for}
use Rattle.laws.specs.Floats.{at}
use Rattle.cell.specs.Cell.{slot_of}
use Rattle.cell.proofs.trial.slot.Given as goal

abbrev pub invariant-loop-j : goal.invariant-loop-j
invariant-loop-j l = for l.j 3 (λ j t. set (set t (l.r * 6 + j) (at l.g (l.c * 3 + j))) (j * 6 + l.r) (at l.g (l.c * 3 + j))) l.m ≡ slot_of l.g 3 l.c l.r l.initial.m

abbrev pub decreases-loop-j : goal.decreases-loop-j
decreases-loop-j l = 3 - l.j
