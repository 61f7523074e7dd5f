-- `diagnostics::grid::visit` meets its contract. Assumes nothing.
use Rattle.diagnostics.specs.Walk.{visit_of, good_of, failed_of, walk_in, failure_at}
use mathlib.Core.Path.{◌≡◌, ap}
use lib.ListN.{length-set}
use Rattle.diagnostics.proofs.Standing.{same_walk}
use Rattle.diagnostics.specs.declared.grid.Walk.{Walk}
use native.Mathlib.Omega.{arith}
use Rattle.diagnostics.proofs.grid.visit.Goals as goal

pub bounds-room-at-in-Err : goal.bounds-room-at-in-Err
bounds-room-at-in-Err c = simp length-set (omega arith)

pub bounds-room-at-in-Err-2 : goal.bounds-room-at-in-Err-2
bounds-room-at-in-Err-2 c = simp length-set (omega arith)

pub returns-in-Ok : goal.returns-in-Ok
unfolding good_of visit_of
returns-in-Ok c = let e : c.good.result.failed ≡ c.args.s.failed = ap (λ (w : Walk). w.failed) c.good.ensures in
    record { room_after = rw c.in-Ok.is (ap (λ (w : Walk). walk_in w c.args.room.now) c.good.ensures); failed_bound = omega arith }

pub returns-in-Err : goal.returns-in-Err
unfolding failed_of failure_at visit_of
returns-in-Err c = let e = ap (λ (w : Walk). w.failed) c.failed_at.ensures in
    record { room_after = rw (c.in-Err.is, ← c.number.ensures) (same_walk c.failed_at.ensures); failed_bound = omega (arith, e) }
