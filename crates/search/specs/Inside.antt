-- A window that keeps within the domain of the search. Definitions only.
-- docs/METHOD.md, 'The search over m and ln sigma'.
use Rattle.std.specs.Prelude.{T}
use Rattle.std.specs.Float.Ieee.{lt}
use Rattle.moves.specs.declared.Axis.{Axis}
use Rattle.moves.specs.declared.Window.{Window}

-- the axis a does not begin below the axis d, nor end above it
pub record Within (d a : Axis) : Type 0 where
  pub lo : T (lt a.lo d.lo) → ⊥
  pub hi : T (lt d.hi a.hi) → ⊥

-- along both axes
pub record Inside (d w : Window) : Type 0 where
  pub m : Within d.m w.m
  pub s : Within d.s w.s
