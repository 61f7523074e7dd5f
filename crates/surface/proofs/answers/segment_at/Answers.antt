-- `surface::answers::segment_at` meets its contract. Assumes nothing.
use Rattle.surface.specs.Surface.{segment_of}
use Rattle.refusals.proofs.Numbers.{handed_on}
use Rattle.surface.proofs.answers.segment_at.Goals as goal

pub returns-in_err-l : goal.returns-in_err-l
unfolding segment_of
returns-in_err-l c = rw (← c.in_err-l.ensures) (handed_on _ _ c.from_residual.ensures.1)

pub returns-in_err-h : goal.returns-in_err-h
unfolding segment_of
returns-in_err-h c = rw (← c.in_ok-l.ensures, ← c.in_err-h.ensures) (handed_on _ _ c.from_residual-in_err-h.ensures.1)

pub returns : goal.returns
unfolding segment_of
returns c = rw (← c.in_ok-l.ensures, ← c.in_ok-h.ensures) c.mixed.ensures
