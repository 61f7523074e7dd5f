-- `text::page::Page::values` meets its contract. Assumes nothing.
use Rattle.std.proofs.Common.{arith, ◌+◌}
use Rattle.std.proofs.Math.Nat.{mul-le-mul_left}
use Rattle.text.specs.Digits.{each}
use Rattle.text.proofs.Writing.{says_none, each_more, each_done}
use Rattle.text.proofs.page.Page.values.Goals as goal

pub loop-x-init : goal.loop-x-init
unfolding each
loop-x-init g c = (omega arith, says_none _)

pub put-requires : goal.put-requires
put-requires g c = omega (arith, c.requires, mul-le-mul_left (g.T.Figure.most + 1) c.loop-x-test.true)

pub print-requires : goal.print-requires
print-requires g c = omega (arith, c.requires, c.put.ensures.wrote.next, mul-le-mul_left (g.T.Figure.most + 1) c.loop-x-test.true)

pub loop-x-preserved : goal.loop-x-preserved
loop-x-preserved g c = (
  omega (arith, c.put.ensures.wrote.next, c.print.ensures.upper_bound),
  each_more g.T.Figure.text c.args.xs.now c.loop-x.x-index c.x-item.result c.loop-x-test.true c.loop-x.invariant.1 c.put.ensures (rw (← c.x-item.is) c.print.ensures.wrote),
)

pub returns : goal.returns
returns g c = record {
  wrote = each_done g.T.Figure.text c.args.xs.now c.loop-x.x-index c.loop-x-test.false c.loop-x.invariant.1;
  upper_bound = omega (arith, c.loop-x.invariant.0, mul-le-mul_left (g.T.Figure.most + 1) c.loop-x.auto.x-index-end);
}
