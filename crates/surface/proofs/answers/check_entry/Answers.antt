-- `surface::answers::check_entry` meets its contract. Assumes nothing.
use Rattle.surface.specs.Surface.{surface_grid_number}
use Rattle.refusals.proofs.Numbers.{check_passes, check_refuses_too}
use Rattle.laws.proofs.Choices.{if_true, if_false}
use mathlib.Core.Path.{refl}
use Rattle.surface.proofs.answers.check_entry.Goals as goal

pub returns-then-over : goal.returns-then-over
unfolding surface_grid_number
returns-then-over c = if_true _ c.if-over.true refl

pub returns-in_err-check_run : goal.returns-in_err-check_run
unfolding surface_grid_number
returns-in_err-check_run c = if_false _ c.if-over.false (check_refuses_too _ c.from_residual.result _ c.from_residual.ensures.1 c.in_err-check_run.ensures)

pub returns : goal.returns
unfolding surface_grid_number
returns c = if_false _ c.if-over.false (check_passes (λ n. n) c.in_ok-check_run.ensures c.check_axes.ensures)
