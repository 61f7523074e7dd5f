-- `search::step` meets its contract. Assumes nothing.
use mathlib.Core.Path.{◌≡◌, sym}
use Prim.Native.Nat.{◌*◌}
use native.Mathlib.Nat.{le_refl, mul_assoc}
use Rattle.laws.specs.Loop.{sum}
use Rattle.laws.proofs.Choices.{if_true, if_false}
use Rattle.search.specs.Search.{pass_of, step_of}
use Rattle.search.specs.Run.{fit_cell}
use Rattle.laws.proofs.Sums.{sum_most}
use Rattle.search.proofs.Passes.{CountsTo, faces_at, updates_on, rows_counts}
use Rattle.search.proofs.SearchCounts.{grid_cells}
use Rattle.search.proofs.FitCells.{fit_most, fit_few}
use native.Mathlib.Omega.{arith}
use Rattle.search.proofs.step.Goals as goal

pub pass-b-requires : goal.pass-b-requires
pass-b-requires c = c.requires.grid

pub counted-n-requires : goal.counted-n-requires
unfolding pass_of
counted-n-requires c = let a = c.args in
    let g = c.requires in
    let n = a.p.n in
    let w = a.s.window in
    let f = fit_cell a.o.ks.now a.o.ws.now a.o.weights.now a.o.l in
    let k : CountsTo f w n c.pass-b.result (n * n) (sum n (λ i. sum n (faces_at f w n i))) (sum n (λ i. sum n (updates_on f w n i))) = rw c.pass-b.ensures (rows_counts f w n n) in
    let m = sum_most n (n * 64) (λ i. sum n (faces_at f w n i)) (λ i h. sum_most n 64 (faces_at f w n i) (λ j h. fit_most a.o.ks.now a.o.ws.now a.o.weights.now a.o.l _ _)) in
    let u = sum_most n (n * 3438) (λ i. sum n (updates_on f w n i)) (λ i h. sum_most n 3438 (updates_on f w n i) (λ j h. fit_few a.o.ks.now a.o.ws.now a.o.weights.now a.o.l _ _)) in
    let z = grid_cells n n (le_refl _) g.grid in
    let y : n * (n * 64) ≡ n * n * 64 = sym (mul_assoc n n 64) in
    let x : n * (n * 3438) ≡ n * n * 3438 = sym (mul_assoc n n 3438) in
    omega (arith, g.passes, g.cells, g.faces, g.updates, k.cells, k.faces, k.updates, m, u, z, y, x)

pub returns-then-b : goal.returns-then-b
unfolding step_of
returns-then-b c = rw (← c.pass-b.ensures, ← c.counted-n.ensures) (if_true _ c.if-b.true c.moved.ensures)

pub returns : goal.returns
unfolding step_of
returns c = rw (← c.pass-b.ensures, ← c.counted-n.ensures) (if_false _ c.if-b.false c.refuse.ensures)
