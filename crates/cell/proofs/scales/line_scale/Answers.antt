-- `cell::scales::line_scale` meets its contract. Assumes nothing.
use Rattle.cell.proofs.Scaling.{line_is}
use Rattle.cell.proofs.scales.line_scale.Goals as goal

pub returns : goal.returns
returns c = line_is c.args.x c.args.y c.args.z c.requires c.unsigned.ensures c.larger-a.ensures c.unsigned-2.ensures c.larger-b.ensures c.unsigned-3.ensures c.larger.ensures
