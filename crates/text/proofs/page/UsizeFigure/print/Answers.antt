-- `text::page::UsizeFigure::print` meets its contract. Assumes nothing.
use Rattle.std.proofs.Common.{arith}
use Rattle.text.proofs.Writing.{digits_short}
use Rattle.text.proofs.page.UsizeFigure.print.Goals as goal

pub returns-clause-upper_bound : goal.returns-clause-upper_bound
returns-clause-upper_bound c = omega (arith, c.digits.ensures.wrote.next, digits_short 10 10 20 c.args.self)
