use mathlib.Core.List.{map}
use Rattle.house.specs.File.{quote_of}
use Rattle.house.proofs.Once.{next_is}
use Rattle.house.proofs.Repeating.{some_clash, no_clash, all_agreed}
use Rattle.house.proofs.all_agree.Goals as goal

pub loop-i-init : goal.loop-i-init
loop-i-init c = next_is (map quote_of c.args.sent.now)

pub returns-then-not-agrees_next : goal.returns-then-not-agrees_next
returns-then-not-agrees_next c = some_clash c.args.sent.now c.loop-i.i c.loop-i-test.true c.loop-i.invariant (rw (← c.quote_of.ensures) c.agrees_next.ensures) c.if-not-agrees_next.true

pub loop-i-preserved : goal.loop-i-preserved
loop-i-preserved c = no_clash c.args.sent.now c.loop-i.i c.loop-i-test.true c.loop-i.invariant (rw (← c.quote_of.ensures) c.agrees_next.ensures) c.if-not-agrees_next.false

pub returns : goal.returns
returns c = all_agreed c.args.sent.now c.loop-i.i c.loop-i-test.false c.loop-i.invariant
