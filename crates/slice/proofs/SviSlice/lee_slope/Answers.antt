-- `slice::SviSlice::lee_slope` meets its contract. Assumes nothing.
use Rattle.refusals.proofs.Numbers.{check_passes, check_refuses}
use Rattle.std.specs.Prelude.{Ok, Err}
use mathlib.Core.Path.{ap}
use Rattle.slice.specs.Slice.{lee_slope_of, level_if_good}
use Rattle.slice.proofs.SviSlice.lee_slope.Goals as goal

pub returns-in_err-check : goal.returns-in_err-check
unfolding lee_slope_of level_if_good
returns-in_err-check c = check_refuses _ c.from_residual.result _ c.from_residual.ensures.1 c.in_err-check.ensures

pub returns : goal.returns
unfolding lee_slope_of level_if_good
returns c = check_passes Err c.in_ok-check.ensures (ap Ok c.lee.ensures)
