-- `roots::from_whole` meets its contract. Assumes nothing.
use Rattle.roots.proofs.Half.{half_between}
use Rattle.roots.proofs.from_whole.Goals as goal

pub returns : goal.returns
returns c = (c.place.ensures.1 _ (half_between _ _ _ _ c.wide_root-r.ensures c.requires.0.0 c.requires.0.1), c.place.ensures.0)
