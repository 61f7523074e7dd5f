-- `roots::wide::cut_off` meets its contract. Assumes nothing.
use native.Mathlib.Omega.{arith}
use Rattle.roots.proofs.Limbs.{top_back, low_back, off_lt, limb, mid_whole, top_lt, whole}
use Rattle.roots.proofs.wide.cut_off.Goals as goal

pub overflow_add-result : goal.overflow_add-result
overflow_add-result c = rw (top_back c.args.n.hi c.args.n.lo c.args.s c.requires.0 c.args.n.low c.requires.1, mid_whole c.args.n.hi c.args.n.lo c.args.s c.requires.0 c.args.n.low c.requires.1) record { fits = omega (arith, limb c.args.n.hi c.args.n.lo c.args.s c.requires.0 c.args.n.low c.requires.1) }

pub returns : goal.returns
returns c = rw (top_back c.args.n.hi c.args.n.lo c.args.s c.requires.0 c.args.n.low c.requires.1, mid_whole c.args.n.hi c.args.n.lo c.args.s c.requires.0 c.args.n.low c.requires.1, low_back c.args.n.hi c.args.n.lo c.args.s c.requires.0 c.args.n.low c.requires.1) (whole c.args.n.hi c.args.n.lo c.args.s c.requires.0 c.args.n.low c.requires.1, top_lt c.args.n.hi c.args.n.lo c.args.s c.requires.0 c.args.n.low c.requires.1, off_lt c.args.n.hi c.args.n.lo c.args.s c.requires.0 c.args.n.low c.requires.1)

pub invariant_of-result : goal.invariant_of-result
invariant_of-result c = rw (top_back c.args.n.hi c.args.n.lo c.args.s c.requires.0 c.args.n.low c.requires.1, mid_whole c.args.n.hi c.args.n.lo c.args.s c.requires.0 c.args.n.low c.requires.1) record {
  high = omega (arith, top_lt c.args.n.hi c.args.n.lo c.args.s c.requires.0 c.args.n.low c.requires.1);
  low = limb c.args.n.hi c.args.n.lo c.args.s c.requires.0 c.args.n.low c.requires.1;
}
