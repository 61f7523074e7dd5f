-- `records::refusal` meets its contract. Assumes nothing.
use mathlib.Core.Path.{refl}
use Rattle.records.specs.Answer.{refused_with}
use Rattle.records.proofs.refusal.Goals as goal

pub returns : goal.returns
unfolding refused_with
returns c = refl
