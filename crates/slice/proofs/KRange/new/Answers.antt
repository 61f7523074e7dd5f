-- `slice::KRange::new` meets its contract. Assumes nothing.
use Rattle.refusals.proofs.Numbers.{check_passes, check_refuses}
use Rattle.std.specs.Prelude.{Err}
use mathlib.Core.Path.{refl}
use Rattle.slice.specs.Slice.{ranged_of}
use Rattle.slice.proofs.KRange.new.Goals as goal

pub returns-in_err-check_range : goal.returns-in_err-check_range
unfolding ranged_of
returns-in_err-check_range c = check_refuses _ c.from_residual.result _ c.from_residual.ensures.1 c.in_err-check_range.ensures

pub returns : goal.returns
unfolding ranged_of
returns c = check_passes Err c.in_ok-check_range.ensures refl
