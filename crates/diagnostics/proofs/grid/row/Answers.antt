use mathlib.Core.Path.{refl, ◌∙◌}
use Rattle.diagnostics.proofs.Standing.{none_more, point_room, point_few, point_on, row_few, row_is}
use Rattle.diagnostics.proofs.grid.row.Goals as goal

pub loop-tau-init : goal.loop-tau-init
loop-tau-init c = record { same = refl; few = none_more _; left = refl }

pub visit-s-requires : goal.visit-s-requires
visit-s-requires c = point_room c.loop-tau.invariant c.args.from c.fresh-s.ensures c.requires c.loop-tau-test.true

pub loop-tau-preserved : goal.loop-tau-preserved
loop-tau-preserved c = let i = c.loop-tau.invariant in
    record {
      same = c.visit-s.auto.room ∙ i.same;
      few = point_few i c.args.from c.fresh-s.ensures c.visit-s.ensures.failed_bound;
      left = point_on i c.args.from c.fresh-s.ensures _ _ c.loop-tau-test.true c.visit-s.ensures.room_after c.seen_at-seen.ensures;
    }

pub shape_of-room : goal.shape_of-room
shape_of-room c = c.loop-tau.invariant.same

pub returns : goal.returns
returns c = let i = c.loop-tau.invariant in
    record { room_after = row_is i c.args.from c.fresh-s.ensures c.loop-tau-test.false; failed_bound = row_few i c.args.from c.fresh-s.ensures c.loop-tau.auto.tau-index-end }
