-- `bits::magnitude` meets its contract. Assumes nothing.
use borrow.Author.Rules.{rules}
use Rattle.laws.proofs.Floats.{abs_at_zero, abs_off_zero}
use Rattle.bits.proofs.magnitude.Goals as goal

pub returns-then-y : goal.returns-then-y
returns-then-y c = abs_at_zero _ _ (search rules) c.unsigned-y.ensures c.if-y.true

pub returns-else-y : goal.returns-else-y
returns-else-y c = abs_off_zero _ _ c.unsigned-y.ensures c.if-y.false
