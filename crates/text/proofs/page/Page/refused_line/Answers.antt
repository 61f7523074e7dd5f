-- `text::page::Page::refused_line` meets its contract. Assumes nothing.
use Rattle.text.specs.Lines.{refused_line}
use Rattle.text.proofs.page.Page.refused_line.Goals as goal

pub returns-clause-wrote : goal.returns-clause-wrote
unfolding refused_line
returns-clause-wrote c = c.line.ensures.wrote
