-- `text::answers::refused` meets its contract. Assumes nothing.
use Rattle.std.proofs.Common.{rules}
use Rattle.text.specs.Answers.{refused_text}
use Rattle.text.proofs.Writing.{says_then}
use Rattle.text.proofs.answers.refused.Goals as goal

pub returns-clause-wrote : goal.returns-clause-wrote
unfolding refused_text
returns-clause-wrote c = let all = says_then c.read_line.ensures.wrote c.refusal.ensures.wrote in search (rules, all)
