-- `surface::axis::all_positive` meets its contract. Assumes nothing.
use Rattle.std.proofs.Common.{rules, sym, ◌∙◌}
use lib.Ieee.{nan, lt}
use Rattle.std.proofs.lemmas.Iterator.{YieldsList-from_slice}
use Rattle.std.proofs.lemmas.Iterator.Search.{all_from_yields_List}
use Rattle.laws.specs.Floats.{+0}
use Rattle.surface.specs.Axis.{all_positive}
use Rattle.laws.proofs.Folds.{for_all}
use Rattle.surface.proofs.axis.all_positive.Goals as goal

pub returns : goal.returns
unfolding all_positive
returns c = all_from_yields_List (lt +0) c.all.new.self _ _ c.all.ensures.ran (YieldsList-from_slice c.args.v.now cc) (λ x b q k. search rules) ∙ sym (for_all (lt +0) nan c.args.v.now)
