-- `cell::Data::normal_equations` meets its contract. Assumes nothing.
use mathlib.Core.Path.{◌≡◌}
use Prim.Native.Nat.{◌-◌}
use lib.ListN.{length}
use Rattle.laws.specs.Loop.{for}
use Rattle.laws.specs.Floats.{at}
use Rattle.cell.specs.Least.{with_observation, normal_equations}
use Rattle.cell.proofs.data.Data.normal_equations.Given as goal

abbrev pub invariant-loop-i : goal.invariant-loop-i
invariant-loop-i l = for l.i (length l.self.ws.now) (λ i s. with_observation s (at l.self.weights.now i) (at l.self.ys.now i) (at l.self.hs.now i) (at l.self.ws.now i)) l.n ≡ normal_equations (at l.self.ys.now) (at l.self.hs.now) l.self.ws.now l.self.weights.now

abbrev pub decreases-loop-i : goal.decreases-loop-i
decreases-loop-i l = length l.self.ws.now - l.i
