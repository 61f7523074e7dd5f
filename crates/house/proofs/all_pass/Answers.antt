-- `house::all_pass` meets its contract. Assumes nothing.
use Rattle.std.proofs.Common.{rules, ◌∙◌}
use Rattle.std.proofs.lemmas.Iterator.{YieldsList-from_slice}
use Rattle.std.proofs.lemmas.Iterator.Search.{all_from_yields_List}
use Rattle.house.specs.File.{quote_of}
use Rattle.house.specs.Check.{quote_passes}
use Rattle.house.proofs.Repeating.{passes_all}
use Rattle.house.proofs.all_pass.Goals as goal

pub returns : goal.returns
returns c = all_from_yields_List (λ s. quote_passes (quote_of s)) _ _ _ c.all.ensures.ran (YieldsList-from_slice c.args.sent.now cc) (λ x b q k. search rules) ∙ passes_all c.args.sent.now
