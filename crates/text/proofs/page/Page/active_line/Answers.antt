-- `text::page::Page::active_line` meets its contract. Assumes nothing.
use Rattle.text.proofs.Writing.{says_then}
use Rattle.text.specs.Lines.{active_line}
use Rattle.text.proofs.page.Page.active_line.Goals as goal

pub returns-clause-wrote : goal.returns-clause-wrote
unfolding active_line
returns-clause-wrote c = says_then c.text.ensures (says_then c.marks.ensures.wrote c.text-2.ensures)
