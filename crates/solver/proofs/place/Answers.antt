use mathlib.Core.Path.{◌≡◌, refl, ap}
use mathlib.Core.List.{List}
use Prim.Native.Nat.{ℕ, ◌+◌, ◌-◌, ◌*◌}
use lib.ListN.{set}
use lib.Ieee.{Float}
use Rattle.solver.specs.Rows.{placed_row, placed_of}
use Rattle.laws.specs.Floats.{at}
use Rattle.laws.proofs.Loops.{again, ended}
use Rattle.solver.proofs.place.Goals as goal

-- the right side after a row
side : (n i : ℕ) (m rhs t u : List Float) → u ≡ placed_row n m i t → set u ((6 - n + i) * 8 + 6) (at rhs i) ≡ set (placed_row n m i t) ((6 - n + i) * 8 + 6) (at rhs i)
side n i m rhs t u e = ap (λ (t : List Float). set t ((6 - n + i) * 8 + 6) (at rhs i)) e

pub loop-i-init : goal.loop-i-init
unfolding placed_of
loop-i-init c = refl

pub loop-i-preserved : goal.loop-i-preserved
loop-i-preserved c = let l = c.loop-i in
    let a = c.args in
    again _ _ _ c.loop-i-test.true (side a.n l.i a.m.now a.rhs.now l.t c.place_row.new.t c.place_row.ensures) l.invariant

pub returns : goal.returns
returns c = ended _ _ _ c.loop-i-test.false c.loop-i.invariant
