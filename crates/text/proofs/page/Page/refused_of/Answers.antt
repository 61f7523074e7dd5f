-- `text::page::Page::refused_of` meets its contract. Assumes nothing.
use Rattle.text.proofs.Writing.{says_as}
use Rattle.text.proofs.Answering.{refused_nine, refused_other}
use Rattle.text.proofs.page.Page.refused_of.Goals as goal

pub returns-then-a-eq9-clause-wrote : goal.returns-then-a-eq9-clause-wrote
returns-then-a-eq9-clause-wrote c = says_as (refused_nine c.args.a c.if-a-eq9.true) c.refused_floats.ensures.wrote

pub returns-else-a-eq9-clause-wrote : goal.returns-else-a-eq9-clause-wrote
returns-else-a-eq9-clause-wrote c = says_as (refused_other c.args.a c.if-a-eq9.false) c.refused_line.ensures.wrote
