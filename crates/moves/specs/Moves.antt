-- The moves of the window between two passes of `fit_slice`'s search: where a pass's best stands, the best of the passes so far, the next window. Definitions only.
-- docs/METHOD.md, 'The search over m and ln sigma'.
use Rattle.std.specs.Prelude.{ℕ, ◌+◌, ◌-◌, Bool, true, false, cond, not, ◌&&◌, ◌||◌, ◌==◌, nat_lt, Float}
use Rattle.std.specs.Float.Ieee.{lt, le}
use Rattle.laws.specs.Floats.{◌+f◌, ◌-f◌, ◌*f◌, +0, half, two, min_of, max_of}
use Rattle.cell.specs.declared.Cell.{Cell}
use Rattle.records.specs.declared.Counts.{Counts}
use Rattle.moves.specs.declared.Axis.{Axis}
use Rattle.moves.specs.declared.Window.{Window}
use Rattle.moves.specs.declared.PassBest.{PassBest}
use Rattle.moves.specs.declared.Found.{Found}
use Rattle.moves.specs.declared.Spot.{Spot}
use Rattle.moves.specs.declared.Place.{Place}
use Rattle.moves.specs.declared.Plan.{Plan}
use Rattle.moves.specs.declared.Stage.{Stage}
use Rattle.moves.specs.declared.Stage.TheVariants.{Going, Ended, Refused, GoingRefused}
use Rattle.moves.specs.declared.Search.{Search}
use Rattle.moves.specs.Axis.{linspace_at}

-- whether a search goes on, and whether a pass with no face has refused it
abbrev pub goes_on : Stage → Bool
goes_on Going = true
goes_on Ended = false
goes_on Refused = false
goes_on GoingRefused = true

abbrev pub was_refused : Stage → Bool
was_refused Going = false
was_refused Ended = false
was_refused Refused = true
was_refused GoingRefused = true

abbrev pub is_going : Search → Bool
is_going s = goes_on s.stage

abbrev pub is_refused : Search → Bool
is_refused s = was_refused s.stage

-- point i of an axis of n
abbrev pub axis_point : Axis → ℕ → ℕ → Float
axis_point a n i = linspace_at a.lo a.hi n i

-- ---- where the pass's best stands

-- on an edge of the window beyond which the domain goes on
abbrev pub open_edge : ℕ → ℕ → Axis → Axis → Bool
open_edge k last w d = (k == 0 && lt d.lo w.lo) || (k == last && lt w.hi d.hi)

-- on any edge
abbrev pub any_edge : ℕ → ℕ → Bool
any_edge k last = k == 0 || k == last

abbrev pub spot_of : Axis → Axis → ℕ → ℕ → Spot
spot_of w d n k = record { point = axis_point w n k; inner_edge = open_edge k (n - 1) w d; edge = any_edge k (n - 1) }

unfoldable pub place_of : Plan → Window → PassBest → Place
place_of p w b = record { m = spot_of w.m p.domain.m p.n b.i; s = spot_of w.s p.domain.s p.n b.j }

-- ---- the best of the passes so far: between passes the later wins a tie

abbrev pub improves : Cell → Cell → Bool
improves c b = not b.some || le c.objective b.objective

unfoldable pub found_of : PassBest → Place → Found → Found
found_of b a o =
    cond (improves b.cell o.cell) (record { cell = b.cell; m = a.m.point; ls = a.s.point; on_edge = a.m.edge || a.s.edge }) o

-- ---- the next window

abbrev pub width : Axis → Float
width a = a.hi -f a.lo

-- from c - h to c + h, within the domain
abbrev pub around : Float → Float → Axis → Axis
around c h d = record { lo = max_of (c -f h) d.lo; hi = min_of (c +f h) d.hi }

-- half the width of a recentred window: along an open edge the whole width, at most half the domain's
abbrev pub grow_of : Bool → Axis → Float → Float
grow_of edge a most = cond edge (min_of (width a) most) (half *f width a)

-- centred on the pass's best
abbrev pub centred : Spot → Axis → Axis → Float → Axis
centred a w d most = around a.point (grow_of a.inner_edge w most) d

unfoldable pub recentred : Plan → Search → Counts → Place → Found → Search
recentred p s n a o =
    record {
      stage = Going;
      window = record { m = centred a.m s.window.m p.domain.m p.hm_max; s = centred a.s s.window.s p.domain.s p.hs_max };
      smallest = s.smallest;
      found = o;
      counts = record { passes = n.passes; recentres = n.recentres + 1; shrinks = n.shrinks; cells = n.cells; faces = n.faces; updates = n.updates };
    }

-- the first step of an axis
abbrev pub step_on : Axis → ℕ → Float
step_on a n = axis_point a n 1 -f a.lo

-- two steps either way of c
abbrev pub narrowed_on : Float → Axis → Axis → ℕ → Axis
narrowed_on c w d n = around c (two *f step_on w n) d

-- of the best of all passes
unfoldable pub narrowed : Plan → Window → Found → Window
narrowed p w o = record { m = narrowed_on o.m w.m p.domain.m p.n; s = narrowed_on o.ls w.s p.domain.s p.n }

-- a shrink counts only where it reaches a window smaller, along m, than the domain and than every shrink counted before
unfoldable pub shrunk : Plan → Search → Counts → Found → Search
shrunk p s n o =
    let w = narrowed p s.window o in
    let less = lt (width w.m) s.smallest in
    record {
      stage = Going;
      window = w;
      smallest = cond less (width w.m) s.smallest;
      found = o;
      counts = record { passes = n.passes; recentres = n.recentres; shrinks = cond less (n.shrinks + 1) n.shrinks; cells = n.cells; faces = n.faces; updates = n.updates };
    }

-- the search ends with what it found
unfoldable pub stopped : Search → Counts → Found → Search
stopped s n o = record { stage = Ended; window = s.window; smallest = s.smallest; found = o; counts = n }

unfoldable pub can_recentre : Plan → Search → Counts → PassBest → Place → Bool
can_recentre p s n b a = (a.m.inner_edge || a.s.inner_edge) && (improves b.cell s.found.cell && nat_lt n.recentres p.max_recentres)

unfoldable pub can_shrink : Plan → Search → Counts → Bool
can_shrink p s n =
    nat_lt n.shrinks p.refinements && (lt +0 (step_on s.window.m p.n) && lt +0 (step_on s.window.s p.n))

unfoldable pub moved_of : Plan → Search → Counts → PassBest → Search
moved_of p s n b =
    let a = place_of p s.window b in
    let o = found_of b a s.found in
    cond (can_recentre p s n b a) (recentred p s n a o)
    (cond (can_shrink p s n) (shrunk p s n o)
    (stopped s n o))
