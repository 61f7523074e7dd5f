-- `diagnostics::report::check_diagnose` meets its contract. Assumes nothing.
use Rattle.diagnostics.specs.Diagnostics.{diagnose_number}
use Rattle.laws.proofs.Choices.{if_true, if_false}
use Rattle.refusals.proofs.Numbers.{check_passes, check_refuses_too}
use mathlib.Core.Path.{refl, sym, ◌∙◌}
use Rattle.diagnostics.proofs.report.check_diagnose.Goals as goal

pub returns-then-short_room : goal.returns-then-short_room
unfolding diagnose_number
returns-then-short_room c = if_true _ (sym c.short_room.ensures ∙ c.if-short_room.true) refl

pub returns-in_err-check_entry : goal.returns-in_err-check_entry
unfolding diagnose_number
returns-in_err-check_entry c = if_false _ (sym c.short_room.ensures ∙ c.if-short_room.false) (check_refuses_too _ c.from_residual.result _ c.from_residual.ensures.1 c.in_err-check_entry.ensures)

pub returns : goal.returns
unfolding diagnose_number
returns c = if_false _ (sym c.short_room.ensures ∙ c.if-short_room.false) (check_passes (λ n. n) c.in_ok-check_entry.ensures c.check_tolerance.ensures)
