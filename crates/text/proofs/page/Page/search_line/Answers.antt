-- `text::page::Page::search_line` meets its contract. Assumes nothing.
use Rattle.text.specs.Lines.{search_line}
use Rattle.text.proofs.page.Page.search_line.Goals as goal

pub returns-clause-wrote : goal.returns-clause-wrote
unfolding search_line
returns-clause-wrote c = c.line.ensures.wrote
