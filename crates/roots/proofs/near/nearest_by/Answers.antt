-- `roots::near::nearest_by` meets its contract. Assumes nothing.
use native.Mathlib.Omega.{arith}
use Rattle.roots.proofs.Rounding.{near_by}
use Rattle.roots.proofs.near.nearest_by.Goals as goal

pub returns : goal.returns
returns c = λ h. (omega arith, λ k F. near_by k c.args.c c.args.e _ F c.args.by c.requires.0 c.requires.1 c.if-c-first.false c.if-v.false c.requires.2 (c.within.ensures h).0 (c.within.ensures h).1)
