-- The search of the fit: its cell, that cell's faces, and its sizes. Definitions only.
-- docs/METHOD.md, 'The search over m and ln sigma'.
use Rattle.std.specs.Prelude.{Bool, ◌&&◌, List, leb, Float}
use Rattle.laws.specs.Choice.{unless}
use Rattle.exponent.specs.Exp.{exp_of}
use Rattle.cell.specs.declared.Limits.{Limits}
use Rattle.cell.specs.Cell.{fit_model, inner_of}
use Rattle.cell.specs.Choice.{face_tried, updates_at}
use Rattle.moves.specs.declared.Plan.{Plan}
use Rattle.moves.specs.declared.Search.{Search}
use Rattle.search.specs.Search.{CellFn, start_of, search_of}
use Rattle.search.specs.Promised.{FaceFn, UpdatesFn}

-- the cell of the fit at (m, ln sigma), over observations k, w and scaled weights
unfoldable pub fit_cell : List Float → List Float → List Float → Limits → CellFn
fit_cell ks ws weights l m ls = inner_of ks ws weights l m (exp_of ls)

-- face t of that cell, tried
unfoldable pub fit_face : List Float → List Float → List Float → Limits → FaceFn
fit_face ks ws weights l m ls t = face_tried fit_model ks ws weights l m (exp_of ls) t

-- and how many entries its elimination updates
unfoldable pub fit_updates : List Float → List Float → List Float → Limits → UpdatesFn
fit_updates ks ws weights l m ls t = updates_at fit_model ks ws weights l m (exp_of ls) t

-- the sizes of document 01
unfoldable pub plan_sizes_hold : Plan → Bool
plan_sizes_hold p = leb p.n 255 && (leb p.refinements 1000 && leb p.max_recentres 1000)

-- `run`; over a size nothing is searched
unfoldable pub planned_search : List Float → List Float → List Float → Limits → Plan → Search
planned_search ks ws weights l p = unless (plan_sizes_hold p) (start_of p) (search_of (fit_cell ks ws weights l) p)
