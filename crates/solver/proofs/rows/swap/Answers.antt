use mathlib.Core.Path.{refl, sym, ◌∙◌}
use Prim.Native.Nat.{◌+◌, ◌*◌}
use native.Mathlib.Omega.{arith}
use lib.Ieee.{nan}
use Rattle.std.proofs.lemmas.List.Edits.{swap_is}
use Rattle.solver.specs.Rows.{swap_in}
use Rattle.laws.proofs.Loops.{again, ended}
use Rattle.solver.proofs.Steps.{swap_self}
use Rattle.solver.proofs.rows.swap.Goals as goal

pub returns-then-a-b : goal.returns-then-a-b
returns-then-a-b c = swap_self _ _ _ c.if-a-b.true

pub loop-j-init : goal.loop-j-init
unfolding swap_in
loop-j-init c = (c.told-m, refl)

pub loop-j-preserved : goal.loop-j-preserved
loop-j-preserved c = let l = c.loop-j in
    let a = c.args in
    let long = l.invariant.0 in (
      c.swap.ensures.len ∙ long,
      again _ _ _ c.loop-j-test.true (c.swap.ensures.after ∙ sym (swap_is l.m (a.a * 8 + l.j) (a.b * 8 + l.j) nan (omega (arith, long, c.requires.0, c.loop-j-test.true)) (omega (arith, long, c.requires.1, c.loop-j-test.true)))) l.invariant.1,
    )

pub returns : goal.returns
returns c = ended _ _ _ c.loop-j-test.false c.loop-j.invariant.1
