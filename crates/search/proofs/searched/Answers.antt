use mathlib.Core.Path.{◌≡◌, sym, ap, ◌∙◌}
use Rattle.search.specs.Search.{after_passes, limit_of}
use Rattle.search.specs.Run.{fit_cell}
use Rattle.search.proofs.Trail.{after_start, ended_early, stepped}
use Rattle.search.proofs.SearchCounts.{sizes_are, roomy}
use Rattle.search.proofs.FitCells.{fit_most, fit_few}
use native.Mathlib.Omega.{arith}
use Rattle.search.proofs.searched.Goals as goal

pub overflow_mul-limit : goal.overflow_mul-limit
overflow_mul-limit c = let z = sizes_are _ c.requires in omega (arith, z.recentres)

pub overflow_add-limit : goal.overflow_add-limit
overflow_add-limit c = let z = sizes_are _ c.requires in omega (arith, z.recentres, z.refinements)

pub overflow_add-limit-2 : goal.overflow_add-limit-2
overflow_add-limit-2 c = let z = sizes_are _ c.requires in omega (arith, z.recentres, z.refinements)

pub loop-t-init : goal.loop-t-init
loop-t-init c = (omega arith, c.start-s.ensures ∙ sym (after_start _ _))

pub returns-then-not-goes_on : goal.returns-then-not-goes_on
returns-then-not-goes_on c = ended_early _ _ _ c.loop-t.t _ c.loop-t.invariant.1 (sym c.goes_on.ensures ∙ c.if-not-goes_on.true) c.loop-t.invariant.0

pub step-s-requires : goal.step-s-requires
step-s-requires c = let a = c.args in
    let l = c.loop-t in
    let z = sizes_are a.p c.requires in
    rw l.invariant.1 (roomy (fit_cell a.o.ks.now a.o.ws.now a.o.weights.now a.o.l) (fit_most a.o.ks.now a.o.ws.now a.o.weights.now a.o.l) (fit_few a.o.ks.now a.o.ws.now a.o.weights.now a.o.l) a.p z.grid z.refinements z.recentres l.t l.invariant.0)

pub overflow_step-t : goal.overflow_step-t
overflow_step-t c = let z = sizes_are _ c.requires in omega (arith, c.loop-t-test.true, z.recentres, z.refinements)

pub loop-t-preserved : goal.loop-t-preserved
loop-t-preserved c = (omega arith, stepped _ _ c.loop-t.s _ c.loop-t.t c.loop-t.invariant.1 (sym c.goes_on.ensures ∙ c.if-not-goes_on.false) c.step-s.ensures)

pub returns : goal.returns
returns c = let e : c.loop-t.t ≡ limit_of c.args.p = omega (arith, c.loop-t-test.false, c.loop-t.invariant.0) in
    c.loop-t.invariant.1 ∙ ap (after_passes _ c.args.p) e
