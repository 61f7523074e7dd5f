-- `text::page::Page::read_line` meets its contract. Assumes nothing.
use Rattle.text.proofs.Writing.{says_then}
use Rattle.text.specs.Lines.{read_line}
use Rattle.text.proofs.page.Page.read_line.Goals as goal

pub returns-clause-wrote : goal.returns-clause-wrote
unfolding read_line
returns-clause-wrote c = says_then c.text.ensures (says_then c.values.ensures.wrote c.line.ensures.wrote)
