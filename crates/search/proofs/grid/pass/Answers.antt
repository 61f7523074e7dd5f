use mathlib.Core.Path.{◌≡◌, sym, ap, ◌∙◌}
use Rattle.cell.specs.declared.Cell.{Cell}
use native.Mathlib.Nat.{mul_assoc}
use Prim.Native.Nat.{◌*◌}
use lib.ListN.{take}
use Rattle.laws.specs.Loop.{sum}
use Rattle.moves.specs.declared.PassBest.{PassBest}
use Rattle.search.specs.Search.{no_best, pass_of}
use Rattle.search.specs.Run.{fit_cell}
use Rattle.search.specs.Sigmas.{sigmas_of}
use Rattle.laws.proofs.Sums.{sum_most}
use Rattle.search.proofs.Passes.{CountsTo, faces_at, updates_on, rows_counts}
use Rattle.search.proofs.SearchCounts.{grid_cells}
use Rattle.search.proofs.FitCells.{fit_most, fit_few}
use Rattle.laws.proofs.Loops.{none_yet, one_more, all_done}
use borrow.Author.Rules.{rules}
use native.Mathlib.Omega.{arith}
use Rattle.search.proofs.grid.pass.Goals as goal

pub fill_sigmas-requires : goal.fill_sigmas-requires
fill_sigmas-requires c = c.requires

pub loop-i-init : goal.loop-i-init
loop-i-init c = let f : Cell → PassBest = λ x. record { cell = x; i = 0; j = 0; cells = 0; faces = 0; updates = 0 } in
    (search rules, ap f c.no_cell.ensures ∙ none_yet _ no_best)

pub row-best-requires : goal.row-best-requires
unfolding sigmas_of
row-best-requires c = let l = c.loop-i in
    let z = c.fill_sigmas in
    let a = c.args in
    let f = fit_cell a.o.ks.now a.o.ws.now a.o.weights.now a.o.l in
    let k : CountsTo f a.w a.n l.best (l.i * a.n) (sum l.i (λ i. sum a.n (faces_at f a.w a.n i))) (sum l.i (λ i. sum a.n (updates_on f a.w a.n i))) = rw l.invariant.1 (rows_counts f a.w a.n l.i) in
    let m = sum_most l.i (a.n * 64) (λ i. sum a.n (faces_at f a.w a.n i)) (λ i h. sum_most a.n 64 (faces_at f a.w a.n i) (λ j h. fit_most a.o.ks.now a.o.ws.now a.o.weights.now a.o.l _ _)) in
    let u = sum_most l.i (a.n * 3438) (λ i. sum a.n (updates_on f a.w a.n i)) (λ i h. sum_most a.n 3438 (updates_on f a.w a.n i) (λ j h. fit_few a.o.ks.now a.o.ws.now a.o.weights.now a.o.l _ _)) in
    let g = grid_cells l.i a.n l.invariant.0 c.requires in
    let y : l.i * (a.n * 64) ≡ l.i * a.n * 64 = sym (mul_assoc l.i a.n 64) in
    let x : l.i * (a.n * 3438) ≡ l.i * a.n * 3438 = sym (mul_assoc l.i a.n 3438) in
    (c.requires, omega (arith, k.cells, g), omega (arith, k.faces, m, g, y), omega (arith, k.updates, u, g, x), ap (take a.n) z.ensures)

pub loop-i-preserved : goal.loop-i-preserved
loop-i-preserved c = let l = c.loop-i in
    let e = c.row-best.ensures in
    (omega arith, one_more _ _ l.i l.invariant.1 e)

pub returns : goal.returns
unfolding pass_of
returns c = all_done _ _ (omega arith) c.loop-i.invariant.1
