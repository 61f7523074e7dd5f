-- `search::grid::cell_at` meets its contract. Assumes nothing.
use Rattle.std.proofs.Common.{arith, ◌∙◌}
use Rattle.cell.proofs.Laws.{inner_lent}
use Rattle.search.proofs.grid.cell_at.Goals as goal

pub returns : goal.returns
returns c = let o = c.args.o in
    c.inner_on.ensures.value ∙ inner_lent o.ks.now o.ws.now o.weights.now o.l c.args.m c.args.sigma c.args.rooms.now.ys c.args.rooms.now.hs (omega arith) (omega arith)
