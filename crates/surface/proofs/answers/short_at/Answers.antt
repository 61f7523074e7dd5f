-- `surface::answers::short_at` meets its contract. Assumes nothing.
use Rattle.surface.specs.Surface.{short_from}
use Rattle.refusals.proofs.Numbers.{handed_on}
use Rattle.surface.proofs.answers.short_at.Goals as goal

pub returns-in_err-v : goal.returns-in_err-v
unfolding short_from
returns-in_err-v c = rw (← c.in_err-v.ensures) (handed_on _ _ c.from_residual.ensures.1)

pub returns : goal.returns
unfolding short_from
returns c = rw (← c.in_ok-v.ensures) c.grown.ensures
