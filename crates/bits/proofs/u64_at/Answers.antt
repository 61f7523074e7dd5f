-- `u64_at` meets its contract: two halves. Assumes nothing.
use borrow.Author.Rules.{rules}
use Rattle.bits.specs.Bytes.{u64_at}
use Rattle.bits.proofs.Past.{past64}
use Rattle.bits.proofs.u64_at.Goals as goal

pub returns-then-s-at : goal.returns-then-s-at
returns-then-s-at c = past64 c.args.s.now _ c.if-s-at.true

pub returns : goal.returns
unfolding u64_at
returns c = search rules
