-- `text::page::Page::fit_line` meets its contract. Assumes nothing.
use Rattle.text.specs.Lines.{fit_line}
use Rattle.text.proofs.page.Page.fit_line.Goals as goal

pub returns-clause-wrote : goal.returns-clause-wrote
unfolding fit_line
returns-clause-wrote c = c.line.ensures.wrote
