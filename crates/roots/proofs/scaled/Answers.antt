-- `roots::scaled` meets its contract. Assumes nothing.
use native.Mathlib.Omega.{arith}
use Rattle.roots.proofs.Half.{half_around}
use Rattle.roots.proofs.scaled.Goals as goal

pub returns-then-within : goal.returns-then-within
returns-then-within c = let g = c.within.ensures c.if-within.true in (half_around c.args.m c.args.s c.in-Some.f (omega arith) (omega arith) (omega arith) g.0 g.1, omega arith)
