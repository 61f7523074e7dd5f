-- `text::page::Page::figures` meets its contract. Assumes nothing.
use Rattle.text.specs.Answers.{figures_text}
use Rattle.text.proofs.Writing.{says_then}
use Rattle.text.proofs.page.Page.figures.Goals as goal

pub returns-clause-wrote : goal.returns-clause-wrote
unfolding figures_text
returns-clause-wrote c = says_then c.fit_line.ensures.wrote (says_then c.search_line.ensures.wrote (says_then c.margins_line.ensures.wrote c.active_line.ensures.wrote))
