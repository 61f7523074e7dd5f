-- `text::page::Page::refused_floats` meets its contract. Assumes nothing.
use Rattle.text.proofs.Writing.{says_then}
use Rattle.text.specs.Lines.{refused_floats}
use Rattle.text.proofs.page.Page.refused_floats.Goals as goal

pub returns-clause-wrote : goal.returns-clause-wrote
unfolding refused_floats
returns-clause-wrote c = says_then c.text.ensures (says_then c.values.ensures.wrote c.line.ensures.wrote)
