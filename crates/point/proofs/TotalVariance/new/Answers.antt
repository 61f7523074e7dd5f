-- `point::TotalVariance::new` meets its contract. Assumes nothing.
use Rattle.refusals.proofs.Numbers.{check_passes, check_refuses}
use Rattle.std.specs.Prelude.{Err}
use mathlib.Core.Path.{refl}
use Rattle.point.specs.Point.{total_of}
use Rattle.point.proofs.TotalVariance.new.Goals as goal

pub returns-in_err-check_total : goal.returns-in_err-check_total
unfolding total_of
returns-in_err-check_total c = check_refuses _ c.from_residual.result _ c.from_residual.ensures.1 c.in_err-check_total.ensures

pub returns : goal.returns
unfolding total_of
returns c = check_passes Err c.in_ok-check_total.ensures refl
