-- `solver::first` meets its contract. Assumes nothing.
use mathlib.Core.Path.{◌≡◌, ap, ◌∙◌}
use Prim.Native.Nat.{ℕ, ◌+◌, ◌-◌}
use native.Mathlib.Omega.{arith}
use lib.ListN.{take, drop, set, replicate}
use Rattle.laws.specs.Floats.{+0, at}
use Rattle.laws.proofs.Loops.{for_same}
use Rattle.solver.specs.Rows.{front_of}
use Rattle.solver.proofs.Copies.{put}
use Rattle.solver.proofs.first.Goals as goal

pub returns : goal.returns
unfolding front_of
returns c = let a = c.args in
    let e : 6 - (6 - a.n) ≡ a.n = omega (arith, c.requires) in
    put 0 (6 - a.n) a.n a.x.now (replicate 6 +0) (omega (arith, c.requires)) (omega (arith, c.requires, c.told-x)) (c.copy_from_slice.ensures.after ∙ ap (λ (k : ℕ). take k (drop (6 - a.n) a.x.now)) e)
    ∙ for_same _ _ a.n (λ j h s. ap (λ (k : ℕ). set s k (at a.x.now (6 - a.n + j))) (omega arith)) (replicate 6 +0)
