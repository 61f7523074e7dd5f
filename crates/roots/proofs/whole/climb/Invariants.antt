-- `roots::whole::climb` meets its contract: root * root + rem stays, and rem falls. Assumes nothing.
use mathlib.Core.Path.{◌≡◌}
use Prim.Native.Nat.{◌+◌, ◌≤◌}
use Rattle.roots.specs.Root.{sq}
use Rattle.roots.proofs.whole.climb.Given as goal

abbrev pub invariant-loop-root : goal.invariant-loop-root
invariant-loop-root l = (sq l.root + l.rem ≡ sq l.g + l.r) × (l.root + l.rem ≤ l.g + l.r)

abbrev pub decreases-loop-root : goal.decreases-loop-root
decreases-loop-root l = l.rem
