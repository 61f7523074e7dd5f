-- `house::among` meets its contract. Assumes nothing.
use Rattle.std.proofs.Common.{rules, ◌∙◌}
use Rattle.std.proofs.lemmas.Iterator.{YieldsList-from_slice}
use Rattle.std.proofs.lemmas.Iterator.Search.{any_from_yields_List}
use Rattle.house.specs.File.{quote_of}
use Rattle.house.specs.Repeats.{same_quote}
use Rattle.house.proofs.Repeating.{among_any}
use Rattle.house.proofs.among.Goals as goal

pub returns : goal.returns
returns c = any_from_yields_List (λ s. same_quote (quote_of s) c.args.q) _ _ _ c.any.ensures.ran (YieldsList-from_slice c.args.before.now cc) (λ x b q k. search rules) ∙ among_any c.args.q c.args.before.now
