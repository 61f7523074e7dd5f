use mathlib.Core.Path.{refl, sym, ap, ◌∙◌}
use mathlib.Core.List.{List}
use lib.Ieee.{Float, le}
use Rattle.laws.specs.Floats.{◌-f◌, at}
use Rattle.laws.proofs.Loops.{again, ended, halted}
use Rattle.polytope.specs.Polytope.{dot_of, feasible_of}
use Rattle.polytope.proofs.feasible.Goals as goal

pub loop-c-init : goal.loop-c-init
unfolding feasible_of
loop-c-init c = refl

pub returns-then-not-dot-bound : goal.returns-then-not-dot-bound
returns-then-not-dot-bound c = let l = c.loop-c in
    let a = c.args in
    let d = c.dot.ensures ∙ ap (λ (g : List Float). dot_of g a.x.now l.c) c.rows-g.ensures in
    let e = sym c.if-not-dot-bound.true ∙ ap (λ (d : Float). le (d -f at a.h.now l.c) a.slack) d in
    halted _ _ _ (λ j. refl) (again _ _ _ c.loop-c-test.true e l.invariant)

pub loop-c-preserved : goal.loop-c-preserved
loop-c-preserved c = let l = c.loop-c in
    let a = c.args in
    let d = c.dot.ensures ∙ ap (λ (g : List Float). dot_of g a.x.now l.c) c.rows-g.ensures in
    let e = sym c.if-not-dot-bound.false ∙ ap (λ (d : Float). le (d -f at a.h.now l.c) a.slack) d in
    again _ _ _ c.loop-c-test.true e l.invariant

pub returns : goal.returns
returns c = ended _ _ _ c.loop-c-test.false c.loop-c.invariant
