-- `search::grid::fill_sigmas` meets its contract. Assumes nothing.
use mathlib.Core.Path.{◌≡◌}
use Prim.Native.Nat.{◌-◌}
use lib.ListN.{set}
use Rattle.laws.specs.Loop.{for}
use Rattle.laws.specs.Room.{filled_on}
use Rattle.search.specs.Sigmas.{sigma_at}
use Rattle.search.proofs.grid.fill_sigmas.Given as goal

abbrev pub invariant-loop-j : goal.invariant-loop-j
invariant-loop-j l = for l.j l.n (λ j t. set t j (sigma_at l.a l.n j)) l.sigmas ≡ filled_on l.n (sigma_at l.a l.n) l.initial.sigmas

abbrev pub decreases-loop-j : goal.decreases-loop-j
decreases-loop-j l = l.n - l.j
