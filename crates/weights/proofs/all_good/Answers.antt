-- `weights::all_good` meets its contract. Assumes nothing.
use Rattle.std.proofs.Common.{rules, sym, ◌∙◌}
use lib.Ieee.{nan}
use Rattle.std.proofs.lemmas.Iterator.{YieldsList-from_slice}
use Rattle.std.proofs.lemmas.Iterator.Search.{all_from_yields_List}
use Rattle.laws.specs.Floats.{positive}
use Rattle.laws.proofs.Folds.{for_all}
use Rattle.weights.specs.Weights.{all_good}
use Rattle.weights.proofs.all_good.Goals as goal

pub returns : goal.returns
unfolding all_good
returns c = all_from_yields_List positive _ _ _ c.all.ensures.ran (YieldsList-from_slice c.args.a.now cc) (λ x b q k. search rules) ∙ sym (for_all positive nan c.args.a.now)
