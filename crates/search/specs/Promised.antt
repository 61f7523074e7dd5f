-- What is promised of a search, whatever its cells are: what it counts, which passes it makes, and that no face it tries is better than the one it chooses. Definitions only.
-- docs/METHOD.md, 'What is promised of the minimum, and what is not'.
use Rattle.std.specs.Prelude.{◌≡◌, ◌⊎◌, true, false, ◌||◌, ℕ, ◌+◌, ◌-◌, ◌*◌, ◌≤◌, ◌<◌, T, Float}
use Rattle.std.specs.Float.Ieee.{lt}
use Rattle.laws.specs.Loop.{sum}
use Rattle.laws.specs.Floats.{finite}
use Rattle.cell.specs.declared.Cell.{Cell}
use Rattle.cell.specs.declared.Tried.{Tried}
use Rattle.cell.specs.Cell.{cell_from}
use Rattle.cell.specs.Choice.{Beats, First}
use Rattle.moves.specs.declared.Plan.{Plan}
use Rattle.moves.specs.declared.Search.{Search}
use Rattle.moves.specs.Moves.{is_going, is_refused, axis_point, any_edge}
use Rattle.search.specs.Search.{CellFn, cell_at, after_passes, limit_of}

-- ---- cells that are chosen from faces

-- face t of the cell at (m, ln sigma), tried: whether it qualifies (`some`), and its objective
abbrev pub FaceFn : Type 0
FaceFn = Float → Float → ℕ → Tried

-- how many entries the elimination of its system updates, whether it is solved or refused
abbrev pub UpdatesFn : Type 0
UpdatesFn = Float → Float → ℕ → ℕ

-- the cells of f are chosen from the faces of g: each tries the first, or the first `top`; its updates are those of the faces it tries, by u, and at most `most`;
-- it is as good as each that it tried; and where it has a face, that is one of them and its objective is finite
pub record ChosenFrom (f : CellFn) (g : FaceFn) (u : UpdatesFn) (top most : ℕ) : Type 0 where
  pub tries : (m ls : Float) → ((f m ls).faces ≡ 1) ⊎ ((f m ls).faces ≡ top)
  pub updates : (m ls : Float) → (f m ls).updates ≡ sum (f m ls).faces (u m ls)
  pub few : (m ls : Float) → (f m ls).updates ≤ most
  pub finite_objective : (m ls : Float) → T (f m ls).some → finite (f m ls).objective ≡ true
  pub beats : (m ls : Float) (t : ℕ) → t < (f m ls).faces → Beats (g m ls) (f m ls) t
  pub first : (m ls : Float) → T (f m ls).some → (t : ℕ) × First (g m ls) (f m ls) t

-- ---- what a search tries. Passes, rows, columns and faces are counted from 0; pass q is made in the window of the state after q passes

-- the cell (i, j) of pass q: m at i, ln sigma at j
abbrev pub cell_of_pass : CellFn → Plan → ℕ → ℕ → ℕ → Cell
cell_of_pass f p q i j = cell_at f (after_passes f p q).window p.n i j

-- face t of that cell, tried
abbrev pub face_of_pass : CellFn → FaceFn → Plan → ℕ → ℕ → ℕ → ℕ → Tried
face_of_pass f g p q i j t = g (axis_point (after_passes f p q).window.m p.n i) (axis_point (after_passes f p q).window.s p.n j) t

-- its updates
abbrev pub updates_of_pass : CellFn → UpdatesFn → Plan → ℕ → ℕ → ℕ → ℕ → ℕ
updates_of_pass f u p q i j t = u (axis_point (after_passes f p q).window.m p.n i) (axis_point (after_passes f p q).window.s p.n j) t

-- face t of the cell (i, j) of pass q is one that the cell tries, and it qualifies
pub record Qualifies (f : CellFn) (g : FaceFn) (p : Plan) (q i j t : ℕ) : Type 0 where
  pub row : i < p.n
  pub column : j < p.n
  pub tried : t < (cell_of_pass f p q i j).faces
  pub qualifies : T (face_of_pass f g p q i j t).some

-- some face that pass q tries qualifies
pub record Yields (f : CellFn) (g : FaceFn) (p : Plan) (q : ℕ) : Type 0 where
  pub i : ℕ
  pub j : ℕ
  pub t : ℕ
  pub face : Qualifies f g p q i j t

-- what the search found is a face that qualifies, tried in a pass made: face t of the cell (i, j) of pass `pass`
pub record ChosenFace (f : CellFn) (g : FaceFn) (p : Plan) (s : Search) : Type 0 where
  pub pass : ℕ
  pub i : ℕ
  pub j : ℕ
  pub t : ℕ
  pub made : pass < s.counts.passes
  pub face : Qualifies f g p pass i j t
  -- the cell found has the face's objective, its x and its marks
  pub is : s.found.cell ≡ cell_from (face_of_pass f g p pass i j t) (cell_of_pass f p pass i j).faces (cell_of_pass f p pass i j).updates
  -- and stands at the point (i, j) of that pass's grid
  pub m : s.found.m ≡ axis_point (after_passes f p pass).window.m p.n i
  pub ls : s.found.ls ≡ axis_point (after_passes f p pass).window.s p.n j
  -- marked where that is any edge of the grid
  pub edge : s.found.on_edge ≡ (any_edge i (p.n - 1) || any_edge j (p.n - 1))

-- ---- the promise

-- of the search s by plan p, with the cells of f, chosen from the faces of g, 1 or `top` in a cell, with updates by u, at most `most` in a cell
pub record Promised (f : CellFn) (g : FaceFn) (u : UpdatesFn) (top most : ℕ) (p : Plan) (s : Search) : Type 0 where
  -- at most refinements + 2 x max_recentres + 1 passes
  pub passes : s.counts.passes ≤ p.refinements + 2 * p.max_recentres + 1
  -- at most max_recentres recentres
  pub recentres : s.counts.recentres ≤ p.max_recentres
  -- at most as many shrinks as refinements
  pub shrinks : s.counts.shrinks ≤ p.refinements
  -- grid x grid cells in each pass
  pub cells : s.counts.cells ≡ s.counts.passes * (p.n * p.n)
  -- the faces are those of each cell of each pass
  pub faces : s.counts.faces ≡ sum s.counts.passes (λ q. sum p.n (λ i. sum p.n (λ j. (cell_of_pass f p q i j).faces)))
  -- and each cell tries 1 or `top`
  pub tries : (q i j : ℕ) → ((cell_of_pass f p q i j).faces ≡ 1) ⊎ ((cell_of_pass f p q i j).faces ≡ top)
  -- the updates are those of each face that is tried, in each cell of each pass
  pub updates : s.counts.updates ≡ sum s.counts.passes (λ q. sum p.n (λ i. sum p.n (λ j. sum (cell_of_pass f p q i j).faces (updates_of_pass f u p q i j))))
  -- at most `most` a cell
  pub few : s.counts.updates ≤ most * s.counts.cells
  -- the search goes on before each pass counted
  pub made : (q : ℕ) → q < s.counts.passes → is_going (after_passes f p q) ≡ true
  -- it is in the state s after them
  pub after : after_passes f p s.counts.passes ≡ s
  -- and where that goes on, no more passes are allowed
  pub ended : is_going s ≡ true → s.counts.passes ≡ limit_of p
  -- one pass is always made; this is the last
  pub last : ℕ
  pub is_last : last + 1 ≡ s.counts.passes
  -- in each pass before the last some face qualifies
  pub earlier : (q : ℕ) → q < last → Yields f g p q
  -- where the search refuses, no face of the last pass qualifies
  pub faceless : is_refused s ≡ true → Yields f g p last → ⊥
  -- where it does not refuse, some face of the last pass qualifies
  pub yielding : is_refused s ≡ false → Yields f g p last
  -- no face that qualifies, in any cell of any pass made, has a smaller objective than the one found
  pub least : (q i j t : ℕ) → q < s.counts.passes → Qualifies f g p q i j t → T (lt (face_of_pass f g p q i j t).objective s.found.cell.objective) → ⊥
  -- where the search does not refuse, the one found is such a face
  pub chosen : is_refused s ≡ false → ChosenFace f g p s
