use Rattle.calibrate.proofs.Listing.{listed_start, listed_yes, listed_no, listed_end}
use Rattle.calibrate.proofs.writing.list_capped.Goals as goal
use Rattle.calibrate.proofs.writing.list_capped.Goals.{then-w-cap, else-w-cap}

pub loop-i-init : goal.loop-i-init
loop-i-init c = listed_start _ _ _

pub loop-i-preserved : goal.loop-i-preserved
loop-i-preserved c = let l = c.loop-i in
    let a = c.args in
    let t = c.loop-i-test.true in
    elim c.if-w-cap.branch [
      | then-w-cap w ↦ rw (w.out-is, w.n-is) (listed_yes a.cap a.ws.now l.i l.n a.out.now l.out t c.requires w.if-w-cap.true l.invariant)
      | else-w-cap w ↦ rw (w.out-is, w.n-is) (listed_no a.cap a.ws.now l.i l.n a.out.now l.out t w.if-w-cap.false l.invariant)
    ]

pub shape_of-out : goal.shape_of-out
shape_of-out c = c.loop-i.invariant.long

pub returns : goal.returns
returns c = listed_end _ _ _ _ _ _ c.loop-i-test.false c.loop-i.invariant
