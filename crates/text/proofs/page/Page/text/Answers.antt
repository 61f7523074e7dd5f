-- `text::page::Page::text` meets its contract. Assumes nothing.
use Rattle.std.proofs.Common.{arith}
use Rattle.text.proofs.Writing.{says_none, text_more, text_done}
use Rattle.text.proofs.page.Page.text.Goals as goal

pub loop-b-init : goal.loop-b-init
loop-b-init c = (omega arith, says_none _)

pub loop-b-preserved : goal.loop-b-preserved
loop-b-preserved c = (omega (arith, c.put.ensures.wrote.next), text_more _ c.loop-b.b-index c.loop-b-test.true c.loop-b.invariant.1 c.put.ensures)

pub returns : goal.returns
returns c = text_done _ c.loop-b.b-index c.loop-b-test.false c.loop-b.invariant.1
