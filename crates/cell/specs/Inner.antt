-- What the code hands its inner functions, as the definitions see it: for the contracts of inner functions alone, so that no reader has to believe it. Definitions only.
use Rattle.std.specs.Prelude.{List, Float, Option, Some, None}
use Rattle.faces.specs.declared.Face.{Face}
use Rattle.cell.specs.declared.Tried.{Tried}
use Rattle.cell.specs.declared.data.Data.{Data}
use Rattle.cell.specs.declared.common.Common.{Common}
use Rattle.cell.specs.Least.{objective_at}
use Rattle.cell.specs.Cell.{Problem, no_try, valued_of}
use Rattle.cell.specs.Shared.{problem_in}

-- the objective over a cell's observations
abbrev pub goal_of : Data → List Float → Float
goal_of d = objective_at d.ys.now d.hs.now d.ws.now d.weights.now

-- the problem of a cell
abbrev pub problem_with : Common → Problem
problem_with c = problem_in c.b c.g c.h c.pivot c.slack

-- a face by its point, where it has one, under the objective o
abbrev pub point_tried : (List Float → Float) → Face → Option (List Float) → Tried
point_tried o f None = no_try
point_tried o f (Some x) = valued_of f x (o x)
