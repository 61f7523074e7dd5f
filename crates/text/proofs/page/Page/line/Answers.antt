-- `text::page::Page::line` meets its contract. Assumes nothing.
use Rattle.text.proofs.Writing.{says_then}
use Rattle.text.proofs.page.Page.line.Goals as goal

pub returns-clause-wrote : goal.returns-clause-wrote
returns-clause-wrote g c = says_then c.text.ensures (says_then c.values.ensures.wrote c.text-2.ensures)
