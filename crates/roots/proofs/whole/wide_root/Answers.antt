-- `roots::whole::wide_root` meets its contract: the step by a division leaves the sum. Assumes nothing.
use mathlib.Core.Path.{◌≡◌, ◌∙◌, subst}
use Prim.Native.Nat.{ℕ, ◌+◌}
use native.Mathlib.Omega.{arith}
use Rattle.roots.specs.Root.{sq}
use Rattle.roots.specs.Inner.{RootPair, limbs}
use Rattle.roots.proofs.Limbs.{step_le, step_sum}
use Rattle.roots.proofs.whole.wide_root.Goals as goal

pub overflow_sub-rem : goal.overflow_sub-rem
overflow_sub-rem c = step_le _ _ c.if-c-le64.true

pub returns-then-c-le64 : goal.returns-then-c-le64
returns-then-c-le64 c = let e : sq c.guess-g.result + c.in-Some.rem ≡ limbs c.args.n.hi c.args.n.lo = omega (arith, c.square.ensures, c.in-Some.ensures) in
    subst (λ (x : ℕ). RootPair x c.climb.result.root c.climb.result.rem) (step_sum _ _ c.if-c-le64.true ∙ e) c.climb.ensures
