-- `diagnostics::points::seen_at` meets its contract. Assumes nothing.
use Rattle.diagnostics.specs.Walk.{seen_on}
use Rattle.refusals.proofs.Numbers.{handed_on}
use Rattle.diagnostics.proofs.points.seen_at.Goals as goal

pub returns-in_err-total_variance : goal.returns-in_err-total_variance
unfolding seen_on
returns-in_err-total_variance c = rw (← c.in_err-total_variance.ensures) (handed_on _ _ c.from_residual.ensures.1)

pub returns : goal.returns
unfolding seen_on
returns c = rw (← c.in_ok-total_variance.ensures) c.reading_of.ensures
