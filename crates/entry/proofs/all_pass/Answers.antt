-- `entry::all_pass` meets its contract. Assumes nothing.
use Rattle.std.proofs.Common.{rules, sym, ◌∙◌}
use lib.Ieee.{nan}
use Rattle.std.proofs.lemmas.Iterator.{YieldsList-from_slice, YieldsList-from_zip}
use Rattle.std.proofs.lemmas.Iterator.Search.{all_from_yields_List}
use Rattle.laws.proofs.Folds.{for_all_columns}
use Rattle.records.specs.Observation.{passes}
use Rattle.entry.specs.Entry.{columns_pass}
use Rattle.entry.proofs.all_pass.Goals as goal

pub returns : goal.returns
unfolding columns_pass
returns c =
    all_from_yields_List (λ q. passes q.0.0 q.0.1 q.1) c.all.new.self _ _ c.all.ensures.ran
    (YieldsList-from_zip (YieldsList-from_zip (YieldsList-from_slice c.args.k.now cc) (YieldsList-from_slice c.args.w.now cc)) (YieldsList-from_slice c.args.weight.now cc)) (λ x b q k. search rules)
    ∙ sym (for_all_columns passes nan nan nan c.args.k.now c.args.w.now c.args.weight.now c.requires.0 c.requires.1)
