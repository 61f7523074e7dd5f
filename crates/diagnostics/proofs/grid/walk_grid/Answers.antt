use mathlib.Core.Path.{refl, ◌∙◌}
use Rattle.diagnostics.proofs.Standing.{walk_starts, row_room, rows_few, row_on, walk_is}
use Rattle.diagnostics.proofs.grid.walk_grid.Goals as goal

pub loop-k-init : goal.loop-k-init
loop-k-init c = record { same = refl; few = walk_starts _ c.start-s.ensures; left = refl }

pub row-s-requires : goal.row-s-requires
row-s-requires c = row_room c.loop-k.invariant c.requires c.loop-k-test.true

pub loop-k-preserved : goal.loop-k-preserved
loop-k-preserved c = let v = c.loop-k.invariant in
    record {
      same = c.row-s.auto.room ∙ v.same;
      few = rows_few v c.row-s.ensures.failed_bound;
      left = row_on v _ _ c.loop-k-test.true c.row-s.ensures.room_after;
    }

pub shape_of-room : goal.shape_of-room
shape_of-room c = c.loop-k.invariant.same

pub returns : goal.returns
returns c = walk_is c.loop-k.invariant c.loop-k-test.false c.start-s.ensures
