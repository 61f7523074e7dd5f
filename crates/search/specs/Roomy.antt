-- What one pass of the code asks for, so that no count wraps. No promise rests on it: the public functions have no such condition.
use Rattle.std.specs.Prelude.{◌≤◌}
use Rattle.moves.specs.declared.Plan.{Plan}
use Rattle.moves.specs.declared.Search.{Search}

pub record Roomy (p : Plan) (s : Search) : Type 0 where
  pub grid : p.n ≤ 255
  pub passes : s.counts.passes ≤ 3001
  pub recentres : s.counts.recentres ≤ 1000
  pub shrinks : s.counts.shrinks ≤ 1000
  pub cells : s.counts.cells ≤ 195_140_025
  pub faces : s.counts.faces ≤ 12_488_961_600
  pub updates : s.counts.updates ≤ 670_891_405_950
