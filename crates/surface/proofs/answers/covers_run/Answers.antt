-- `surface::answers::covers_run` meets its contract. Assumes nothing.
use Rattle.surface.specs.Surface.{covers_run}
use Rattle.refusals.proofs.Numbers.{check_passes, check_refuses}
use Rattle.surface.proofs.Passed.{entry_few}
use Rattle.std.specs.Prelude.{Ok, Err}
use mathlib.Core.Path.{ap, refl}
use Rattle.surface.proofs.answers.covers_run.Goals as goal

pub all_held-requires : goal.all_held-requires
all_held-requires c = entry_few c.args.run c.args.k.now c.args.tau.now c.in_ok-check_entry.ensures refl

pub returns-in_err-check_entry : goal.returns-in_err-check_entry
unfolding covers_run
returns-in_err-check_entry c = check_refuses _ c.from_residual.result _ c.from_residual.ensures.1 c.in_err-check_entry.ensures

pub returns : goal.returns
unfolding covers_run
returns c = check_passes Err c.in_ok-check_entry.ensures (ap Ok c.all_held.ensures)
