-- `house::quote_passes` meets its contract. Assumes nothing.
use mathlib.Core.Path.{◌∙◌}
use Rattle.house.specs.Check.{quote_passes}
use Rattle.house.proofs.quote_passes.Goals as goal

pub returns : goal.returns
unfolding quote_passes
returns c = c.passes.ensures ∙ rw (c.f64_of-3.ensures, c.f64_of-2.ensures, c.f64_of.ensures)
