-- The search of `fit_slice`, over any cell function: passes over the grid of a window, and after each the move of the window. Definitions only.
-- docs/METHOD.md, 'The search over m and ln sigma'.
use Rattle.std.specs.Prelude.{Bool, true, not, ◌&&◌, ◌||◌, cond, ℕ, ◌+◌, ◌*◌, Float}
use Rattle.std.specs.Float.Ieee.{lt}
use Rattle.laws.specs.Loop.{turns, for}
use Rattle.laws.specs.Floats.{+0}
use Rattle.cell.specs.declared.Cell.{Cell}
use Rattle.cell.specs.Cell.{no_cell}
use Rattle.records.specs.declared.Counts.{Counts}
use Rattle.records.specs.Answer.{no_counts}
use Rattle.moves.specs.declared.Window.{Window}
use Rattle.moves.specs.declared.PassBest.{PassBest}
use Rattle.moves.specs.declared.Plan.{Plan}
use Rattle.moves.specs.declared.Stage.TheVariants.{Going, Refused}
use Rattle.moves.specs.declared.Search.{Search}
use Rattle.moves.specs.Moves.{is_going, axis_point, width, moved_of}

-- what a fit's cell yields at (m, ln sigma)
abbrev pub CellFn : Type 0
CellFn = Float → Float → Cell

-- ---- a pass: every cell of the window's grid, m outside

-- the cell at (i, j) of the grid
abbrev pub cell_at : CellFn → Window → ℕ → ℕ → ℕ → Cell
cell_at f w n i j = f (axis_point w.m n i) (axis_point w.s n j)

-- a cell wins over the pass's best so far: it has a face, and there is none so far or its objective is smaller
abbrev pub better : Cell → Cell → Bool
better c b = c.some && (not b.some || lt c.objective b.objective)

unfoldable pub consider : PassBest → Cell → ℕ → ℕ → PassBest
consider b c i j =
    record {
      cell = cond (better c b.cell) c b.cell;
      i = cond (better c b.cell) i b.i;
      j = cond (better c b.cell) j b.j;
      cells = b.cells + 1;
      faces = b.faces + c.faces;
      updates = b.updates + c.updates;
    }

abbrev pub no_best : PassBest
no_best = record { cell = no_cell; i = 0; j = 0; cells = 0; faces = 0; updates = 0 }

unfoldable pub grid_row : CellFn → Window → ℕ → ℕ → PassBest → PassBest
grid_row f w n i b = for 0 n (λ j b. consider b (cell_at f w n i j) i j) b

unfoldable pub pass_of : CellFn → Window → ℕ → PassBest
pass_of f w n = for 0 n (λ i b. grid_row f w n i b) no_best

-- ---- the search

unfoldable pub counted_of : Counts → PassBest → Counts
counted_of n b =
    record {
      passes = n.passes + 1;
      recentres = n.recentres;
      shrinks = n.shrinks;
      cells = n.cells + b.cells;
      faces = n.faces + b.faces;
      updates = n.updates + b.updates;
    }

-- the search ends in a refusal
unfoldable pub search_refused : Search → Counts → Search
search_refused s n = record { stage = Refused; window = s.window; smallest = s.smallest; found = s.found; counts = n }

-- one pass, counted, and the move after it. A pass with no face refuses, whatever was found before
unfoldable pub step_of : CellFn → Plan → Search → Search
step_of f p s =
    let b = pass_of f s.window p.n in
    let n = counted_of s.counts b in
    cond b.cell.some (moved_of p s n b) (search_refused s n)

-- the first window is the whole domain
unfoldable pub start_of : Plan → Search
start_of p =
    record {
      stage = Going;
      window = p.domain;
      smallest = width p.domain.m;
      found = record { cell = no_cell; m = +0; ls = +0; on_edge = true };
      counts = no_counts;
    }

-- a pass is made only while the search goes on
abbrev pub pass_while_going : CellFn → Plan → ℕ → Search → Search
pass_while_going f p q s = cond (is_going s) (step_of f p s) s

-- the state after q passes, or, where the search ended earlier, at its end. Pass q, counted from 0, is made in the window of the state after q passes
unfoldable pub after_passes : CellFn → Plan → ℕ → Search
after_passes f p q = turns (pass_while_going f p) q 0 (start_of p)

abbrev pub limit_of : Plan → ℕ
limit_of p = p.refinements + 2 * p.max_recentres + 1

abbrev pub search_of : CellFn → Plan → Search
search_of f p = after_passes f p (limit_of p)
