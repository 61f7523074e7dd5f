-- `search::searched` meets its contract. Assumes nothing.
use mathlib.Core.Path.{◌≡◌}
use Prim.Native.Nat.{◌-◌, ◌≤◌}
use Rattle.search.specs.Search.{after_passes, limit_of}
use Rattle.search.specs.Run.{fit_cell}
use Rattle.search.proofs.searched.Given as goal

abbrev pub invariant-loop-t : goal.invariant-loop-t
invariant-loop-t l = (l.t ≤ limit_of l.p) × (l.s ≡ after_passes (fit_cell l.o.ks.now l.o.ws.now l.o.weights.now l.o.l) l.p l.t)

abbrev pub decreases-loop-t : goal.decreases-loop-t
decreases-loop-t l = limit_of l.p - l.t
