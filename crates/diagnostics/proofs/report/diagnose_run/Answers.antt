-- `diagnostics::report::diagnose_run` meets its contract. Assumes nothing.
use Rattle.std.specs.Prelude.{Err}
use Rattle.surface.specs.declared.types.Nodes.{Nodes}
use Rattle.diagnostics.specs.Walk.{seen_on, walk_of}
use Rattle.diagnostics.specs.Diagnostics.{diagnose_of, with_room}
use Rattle.refusals.proofs.Numbers.{check_passes, check_stops}
use mathlib.Core.Path.{refl, ap, ◌∙◌}
use lib.ListN.{length}
use Rattle.refusals.proofs.Numbers.{handed_on}
use Rattle.diagnostics.proofs.Standing.{room_enough, report_is, halves}
use Rattle.diagnostics.proofs.report.diagnose_run.Goals as goal

pub walk_grid-s-requires : goal.walk_grid-s-requires
walk_grid-s-requires c = let a = c.args in
    room_enough a.run a.ks.now a.axis.now a.tol (length a.room.now) c.in_ok-check_diagnose.ensures refl

pub shape_of-room : goal.shape_of-room
shape_of-room c = c.walk_grid-s.auto.room

pub returns-in_err-check_diagnose : goal.returns-in_err-check_diagnose
unfolding diagnose_of
returns-in_err-check_diagnose c = let a = c.args in
    halves (diagnose_of a.run a.policy a.ks.now a.axis.now a.tol a.room.now)
    (ap (λ d. with_room d a.room.now) (handed_on _ _ c.from_residual.ensures.1) ∙ check_stops _ (λ n. with_room (Err n) a.room.now) _ c.in_err-check_diagnose.ensures)

pub returns : goal.returns
unfolding diagnose_of
returns c = let a = c.args in
    halves (diagnose_of a.run a.policy a.ks.now a.axis.now a.tol a.room.now)
    (check_passes (λ n. with_room (Err n) a.room.now) c.in_ok-check_diagnose.ensures
    (report_is c.report_of.ensures (c.walk_grid-s.ensures ∙ ap (λ (m : Nodes). walk_of (seen_on a.run.recs m.taus m.tols m.count a.policy) a.tol a.ks.now a.axis.now a.room.now) c.of-nodes.ensures)))
