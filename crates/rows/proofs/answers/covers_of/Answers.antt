-- `rows::answers::covers_of` meets its contract. Assumes nothing.
use mathlib.Core.Path.{refl, ap, ◌∙◌}
use mathlib.Core.List.{[], ◌∷◌}
use Rattle.rows.proofs.Flags.{bool_byte_is}
use Rattle.rows.specs.Answers.{covers_for}
use Rattle.rows.proofs.answers.covers_of.Goals as goal

pub returns : goal.returns
unfolding covers_for
returns c = rw (← c.covers_run.ensures, ← c.told-a.ensures) (refl, ap (λ n. n ∷ []) (c.from.ensures ∙ bool_byte_is c.told-a.result.value))
