-- `cell::Data::objective` meets its contract. Assumes nothing.
use mathlib.Core.Path.{◌≡◌}
use Prim.Native.Nat.{◌-◌}
use lib.ListN.{length}
use Rattle.laws.specs.Loop.{for}
use Rattle.laws.specs.Floats.{◌+f◌, ◌*f◌, at}
use Rattle.cell.specs.Least.{miss_of, objective_at}
use Rattle.cell.proofs.data.Data.objective.Given as goal

abbrev pub invariant-loop-i : goal.invariant-loop-i
invariant-loop-i l = for l.i (length l.self.ws.now) (λ i a. a +f at l.self.weights.now i *f miss_of l.x (at l.self.ys.now i) (at l.self.hs.now i) (at l.self.ws.now i) *f miss_of l.x (at l.self.ys.now i) (at l.self.hs.now i) (at l.self.ws.now i)) l.acc ≡ objective_at l.self.ys.now l.self.hs.now l.self.ws.now l.self.weights.now l.x

abbrev pub decreases-loop-i : goal.decreases-loop-i
decreases-loop-i l = length l.self.ws.now - l.i
