-- `house::same_content` meets its contract. Assumes nothing.
use mathlib.Core.Path.{refl}
use Rattle.house.specs.Repeats.{same_content}
use Rattle.house.proofs.same_content.Goals as goal

pub returns : goal.returns
unfolding same_content
returns c = refl
