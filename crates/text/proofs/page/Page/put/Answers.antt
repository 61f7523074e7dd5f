-- `text::page::Page::put` meets its contract. Assumes nothing.
use Rattle.text.proofs.Writing.{says_one, says_beyond}
use Rattle.text.proofs.page.Page.put.Goals as goal
use Rattle.text.proofs.page.Page.put.Goals.{then-self, else-self}

pub returns : goal.returns
returns c = elim c.if-self.branch [
  | then-self w ↦ rw (w.self-is) (says_one c.args.self.now c.args.b)
  | else-self w ↦ rw (w.self-is) (says_beyond c.args.self.now c.args.b w.if-self.false)
]
