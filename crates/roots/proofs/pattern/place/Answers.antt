-- `roots::pattern::place` meets its contract: `placed`, the law of rounding in proofs/Rounding.antt. Assumes nothing.
use mathlib.Core.Path.{refl, sym, subst}
use Prim.Native.Nat.{ℕ, ◌*◌, ◌^◌, ◌≤◌}
use native.Mathlib.Nat.{min-le_right}
use Rattle.roots.proofs.Rounding.{placed}
use Rattle.roots.proofs.pattern.place.Goals as goal

pub returns : goal.returns
returns c = (
  subst (λ (r : ℕ). r ≤ 2047 * 2 ^ 52) (sym c.min.ensures) (min-le_right _ _),
  placed c.args.q c.args.e _ c.min.result c.args.more refl c.requires.0 c.requires.1 c.requires.2 c.min.ensures,
)
