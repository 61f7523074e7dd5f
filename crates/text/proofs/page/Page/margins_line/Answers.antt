-- `text::page::Page::margins_line` meets its contract. Assumes nothing.
use Rattle.text.specs.Lines.{margins_line}
use Rattle.text.proofs.page.Page.margins_line.Goals as goal

pub returns-clause-wrote : goal.returns-clause-wrote
unfolding margins_line
returns-clause-wrote c = c.line.ensures.wrote
