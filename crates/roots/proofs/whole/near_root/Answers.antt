-- `roots::whole::near_root` meets its contract. Assumes nothing.
use Rattle.roots.proofs.Limbs.{last_small, last_between}
use Rattle.roots.proofs.whole.near_root.Goals as goal

pub returns : goal.returns
returns c = (last_small _ _ _ _ _ _ _ c.joined-t.ensures.0 c.wide_root-r.ensures c.joined-t.ensures.1 c.joined-t.result.kept.low, last_between _ _ _ _ _ _ _ c.joined-t.ensures.0 c.wide_root-r.ensures c.joined-t.ensures.2)
