-- `cell::scales::block_scale` meets its contract. Assumes nothing.
use Rattle.solver.proofs.Steps.{zero_not_below}
use Rattle.cell.proofs.Scaling.{block_is}
use Rattle.cell.proofs.scales.block_scale.Goals as goal

pub line_scale-a-requires : goal.line_scale-a-requires
line_scale-a-requires c = zero_not_below

pub returns : goal.returns
returns c = block_is c.args.b.now c.lines-n.ensures c.line_scale-a.ensures.0 c.line_scale-d.ensures.0 c.line_scale.ensures.0
