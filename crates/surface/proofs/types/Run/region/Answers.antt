-- `surface::types::Run::region` meets its contract. Assumes nothing.
use Rattle.std.specs.Prelude.{Ok}
use mathlib.Core.Path.{refl, ap, ◌∙◌}
use native.Mathlib.Omega.{arith}
use Rattle.surface.specs.Surface.{region_by}
use Rattle.surface.proofs.Fronts.{places}
use Rattle.refusals.proofs.Numbers.{handed_on}
use Rattle.surface.proofs.types.Run.region.Goals as goal

pub offset_bounds-self-lo : goal.offset_bounds-self-lo
offset_bounds-self-lo c = omega (arith, (places _ _ _ _ _ _ c.in_ok-bracket.ensures c.in-Segment.is).0)

pub bounds-self-lo : goal.bounds-self-lo
bounds-self-lo c = (places _ _ _ _ _ _ c.in_ok-bracket.ensures c.in-Segment.is).0

pub offset_bounds-self-hi : goal.offset_bounds-self-hi
offset_bounds-self-hi c = omega (arith, (places _ _ _ _ _ _ c.in_ok-bracket.ensures c.in-Segment.is).1)

pub bounds-self-hi : goal.bounds-self-hi
bounds-self-hi c = (places _ _ _ _ _ _ c.in_ok-bracket.ensures c.in-Segment.is).1

pub returns-in_err-bracket : goal.returns-in_err-bracket
returns-in_err-bracket c = rw (← c.in_err-bracket.ensures) (handed_on _ _ c.from_residual.ensures.1)

pub returns-in-Short : goal.returns-in-Short
returns-in-Short c = rw (← c.in_ok-bracket.ensures, c.in-Short.is) refl

pub returns-in-Segment : goal.returns-in-Segment
returns-in-Segment c = rw (← c.in_ok-bracket.ensures, c.in-Segment.is) (ap Ok (c.region_by.ensures ∙ ap region_by c.both_hold.ensures))
