use mathlib.Core.Path.{◌≡◌, ap}
use Rattle.std.proofs.Common.{rules}
use Rattle.laws.specs.Floats.{at}
use Rattle.laws.proofs.Loops.{again, ended}
use Rattle.laws.specs.Loop.{for}
use lib.ListN.{length}
use Rattle.cell.specs.declared.Normal.{Normal}
use Rattle.cell.specs.Least.{no_line, with_observation, normal_equations}
use Rattle.cell.proofs.data.Data.normal_equations.Goals as goal

pub loop-i-init : goal.loop-i-init
unfolding normal_equations
loop-i-init c =
    let d = c.args.self.now in
    let none : c.default-n.result ≡ record { a = no_line; d = no_line; c = no_line } = search rules in
    ap (λ (n : Normal). for 0 (length d.ws.now) (λ i s. with_observation s (at d.weights.now i) (at d.ys.now i) (at d.hs.now i) (at d.ws.now i)) n) none

pub loop-i-preserved : goal.loop-i-preserved
loop-i-preserved c = again _ _ _ c.loop-i-test.true c.added-n.ensures c.loop-i.invariant

pub returns : goal.returns
returns c = ended _ _ _ c.loop-i-test.false c.loop-i.invariant
