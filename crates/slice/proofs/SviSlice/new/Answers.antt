-- `slice::SviSlice::new` meets its contract. Assumes nothing.
use Rattle.refusals.proofs.Numbers.{check_passes, check_refuses}
use Rattle.std.specs.Prelude.{Err}
use mathlib.Core.Path.{refl}
use Rattle.slice.specs.Slice.{made_of}
use Rattle.slice.proofs.SviSlice.new.Goals as goal

pub returns-in_err-check : goal.returns-in_err-check
unfolding made_of
returns-in_err-check c = check_refuses _ c.from_residual.result _ c.from_residual.ensures.1 c.in_err-check.ensures

pub returns : goal.returns
unfolding made_of
returns c = check_passes Err c.in_ok-check.ensures refl
