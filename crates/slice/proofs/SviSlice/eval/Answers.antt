-- `slice::SviSlice::eval` meets its contract. Assumes nothing.
use Rattle.refusals.proofs.Numbers.{check_passes, check_refuses}
use Rattle.std.specs.Prelude.{Err}
use Rattle.slice.specs.Slice.{eval_of}
use Rattle.slice.proofs.SviSlice.eval.Goals as goal

pub returns-in_err-check : goal.returns-in_err-check
unfolding eval_of
returns-in_err-check c = check_refuses _ c.from_residual.result _ c.from_residual.ensures.1 c.in_err-check.ensures

pub returns : goal.returns
unfolding eval_of
returns c = check_passes Err c.in_ok-check.ensures c.eval_tested.ensures
