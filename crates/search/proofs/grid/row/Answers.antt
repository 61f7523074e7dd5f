use mathlib.Core.Path.{◌≡◌, ap, ap₂, ◌∙◌}
use mathlib.Core.List.{List}
use Prim.Native.Nat.{ℕ, ◌+◌, ◌≤◌, ◌<◌}
use lib.ListN.{length, take, replicate, length-replicate}
use Rattle.std.proofs.lemmas.List.{get_or-take, length-take-le}
use lib.Ieee.{Float, nan}
use Rattle.laws.specs.Floats.{at, +0}
use Rattle.cell.specs.declared.Cell.{Cell}
use Rattle.cell.specs.declared.Limits.{Limits}
use Rattle.cell.specs.Cell.{inner_of}
use Rattle.laws.proofs.Rooms.{filled_at, filled_length}
use Rattle.moves.specs.declared.Window.{Window}
use Rattle.moves.specs.declared.PassBest.{PassBest}
use Rattle.search.specs.Sigmas.{sigma_at, sigmas_of}
use Rattle.laws.specs.Loop.{for, sum}
use Rattle.moves.specs.Moves.{axis_point}
use Rattle.search.specs.Search.{consider, cell_at, grid_row}
use Rattle.search.specs.Run.{fit_cell}
use Rattle.laws.proofs.Sums.{sum_most}
use Rattle.search.proofs.Passes.{CountsTo, faces_at, updates_on, row_counts}
use Rattle.search.proofs.FitCells.{fit_most, fit_few}
use Rattle.laws.proofs.Loops.{none_yet, one_more, all_done, for_same}
use native.Mathlib.Omega.{arith}
use Rattle.search.proofs.grid.row.Goals as goal

module _ (t : List Float) (w : Window) (n i : ℕ) (ks ws weights : List Float) (l : Limits) (m : Float) (r : n ≤ 255) (et : t ≡ take n (sigmas_of w.s n)) (em : m ≡ axis_point w.m n i) where
  -- a cell at the sigma of point j is the fit's cell at that point
  same_cell : (j : ℕ) → j < n → inner_of ks ws weights l m (at t j) ≡ cell_at (fit_cell ks ws weights l) w n i j
  unfolding sigmas_of sigma_at fit_cell
  same_cell j h =
      let z : n ≤ length (replicate 256 +0) = omega (arith, r, length-replicate 256 +0) in
      ap₂ (inner_of ks ws weights l) em (ap (λ (t : List Float). at t j) et ∙ get_or-take n (sigmas_of w.s n) j nan h ∙ filled_at (sigma_at w.s n) nan n j (replicate 256 +0) z h)

  -- there are n of them
  long : length t ≡ n
  unfolding sigmas_of
  long =
      ap (λ (t : List Float). length t) et
      ∙ length-take-le n (sigmas_of w.s n) (omega (arith, r, filled_length (sigma_at w.s n) n (replicate 256 +0), length-replicate 256 +0))

  -- and so is a row of them
  same_row : (k : ℕ) (b : PassBest) → k ≤ n → for 0 k (λ j b. consider b (inner_of ks ws weights l m (at t j)) i j) b ≡ for 0 k (λ j b. consider b (cell_at (fit_cell ks ws weights l) w n i j) i j) b
  same_row k b h = for_same _ _ k (λ j g s. ap (λ (c : Cell). consider s c i j) (same_cell j (omega arith))) b

pub loop-j-init : goal.loop-j-init
loop-j-init c = none_yet _ _

pub considered-best-requires : goal.considered-best-requires
considered-best-requires c = let l = c.loop-j in
    let a = c.args in
    let o = a.o in
    let f = fit_cell o.ks.now o.ws.now o.weights.now o.l in
    let z = long a.sigmas.now a.w a.n a.i o.ks.now o.ws.now o.weights.now o.l _ c.requires.0 c.requires.4 c.linspace_at-m.ensures in
    let b : l.j < a.n = omega (arith, z, c.loop-j-test.true) in
    let k = row_counts f a.w a.n a.i a.b l.j in
    let m = sum_most l.j 64 (faces_at f a.w a.n a.i) (λ j h. fit_most o.ks.now o.ws.now o.weights.now o.l _ _) in
    let u = sum_most l.j 3438 (updates_on f a.w a.n a.i) (λ j h. fit_few o.ks.now o.ws.now o.weights.now o.l _ _) in
    let is = c.cell_at-c.ensures ∙ same_cell a.sigmas.now a.w a.n a.i o.ks.now o.ws.now o.weights.now o.l _ c.requires.0 c.requires.4 c.linspace_at-m.ensures l.j b in
    let v : c.cell_at-c.result.updates ≤ 3438 = rw is (fit_few o.ks.now o.ws.now o.weights.now o.l _ _) in
    let t : c.cell_at-c.result.faces ≤ 64 = rw is (fit_most o.ks.now o.ws.now o.weights.now o.l _ _) in
    let e : CountsTo f a.w a.n l.best (a.b.cells + l.j) (a.b.faces + sum l.j (faces_at f a.w a.n a.i)) (a.b.updates + sum l.j (updates_on f a.w a.n a.i)) =
    rw (l.invariant, same_row a.sigmas.now a.w a.n a.i o.ks.now o.ws.now o.weights.now o.l _ c.requires.0 c.requires.4 c.linspace_at-m.ensures l.j a.b (omega (arith, b))) k in
    omega (arith, c.requires.0, c.requires.1, c.requires.2, c.requires.3, e.cells, e.faces, e.updates, m, u, t, v, b)

pub loop-j-preserved : goal.loop-j-preserved
loop-j-preserved c = one_more _ _ c.loop-j.j c.loop-j.invariant (rw (← c.cell_at-c.ensures) c.considered-best.ensures)

pub returns : goal.returns
unfolding grid_row
returns c = let l = c.loop-j in
    let a = c.args in
    let o = a.o in
    let z = long a.sigmas.now a.w a.n a.i o.ks.now o.ws.now o.weights.now o.l _ c.requires.0 c.requires.4 c.linspace_at-m.ensures in
    let e : l.j ≡ a.n = omega (arith, z, c.loop-j-test.false, l.auto.j-end) in
    all_done _ _ e (l.invariant ∙ same_row a.sigmas.now a.w a.n a.i o.ks.now o.ws.now o.weights.now o.l _ c.requires.0 c.requires.4 c.linspace_at-m.ensures l.j a.b (omega (arith, e)))
