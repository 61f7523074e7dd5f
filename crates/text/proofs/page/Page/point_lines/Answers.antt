-- `text::page::Page::point_lines` meets its contract. Assumes nothing.
use Rattle.std.proofs.Common.{arith, ap}
use Rattle.laws.specs.Loop.{turns}
use Rattle.text.specs.Lines.{ascii, floats_line, point_line, point_lines}
use Rattle.text.proofs.Writing.{says_none, piece_more, piece_done, four_cut}
use Rattle.text.proofs.page.Page.point_lines.Goals as goal

pub loop-point-init : goal.loop-point-init
unfolding turns
loop-point-init c = (omega arith, says_none _)

pub line-requires : goal.line-requires
line-requires c =
    let i = c.loop-point.point-index in
    omega (arith, (four_cut _ _ c.as_chunks.ensures.front i (omega arith)).1)

pub loop-point-preserved : goal.loop-point-preserved
unfolding point_line
loop-point-preserved c =
    let i = c.loop-point.point-index in
    let xs = c.args.residuals.now in
    (omega (arith, c.line.ensures.upper_bound, (four_cut _ _ c.as_chunks.ensures.front i (omega arith)).1), piece_more (point_line xs) i (ap (floats_line (ascii "point")) (four_cut _ _ c.as_chunks.ensures.front i (omega arith)).0) c.loop-point.invariant.1 c.line.ensures.wrote)

pub returns-clause-wrote : goal.returns-clause-wrote
unfolding point_lines
returns-clause-wrote c = piece_done (point_line c.args.residuals.now) c.loop-point.point-index _ (omega arith) c.loop-point.invariant.1
