-- `cell::Common::candidate` meets its contract. Assumes nothing.
use mathlib.Core.Path.{sym, ap, ◌∙◌}
use mathlib.Core.Bool.{true, false}
use mathlib.Core.List.{List}
use lib.Ieee.{Float}
use Rattle.solver.specs.declared.Solved.{Solved}
use Rattle.polytope.specs.Polytope.{feasible_of}
use Rattle.cell.specs.Cell.{widened}
use Rattle.cell.proofs.Laws.{met, unmet}
use Rattle.cell.proofs.common.Common.candidate.Goals as goal

pub returns-then-feasible : goal.returns-then-feasible
returns-then-feasible c = let a = c.args in
    let s = c.solution-s in
    let w = ap (λ (g : List Float). feasible_of g a.self.now.h 7 a.self.now.slack (widened s.result.x)) a.self.now.rows ∙ sym c.feasible.ensures ∙ c.if-feasible.true in
    record { work = ap (λ (t : Solved). t.updates) s.ensures; tried = λ (o : List Float → Float). met o a.self.now.b a.self.now.g a.self.now.h a.self.now.pivot a.self.now.slack a.f s.result _ s.ensures c.if-s.true true w }

pub returns-else-feasible : goal.returns-else-feasible
returns-else-feasible c = let a = c.args in
    let s = c.solution-s in
    let w = ap (λ (g : List Float). feasible_of g a.self.now.h 7 a.self.now.slack (widened s.result.x)) a.self.now.rows ∙ sym c.feasible.ensures ∙ c.if-feasible.false in
    record { work = ap (λ (t : Solved). t.updates) s.ensures; tried = λ (o : List Float → Float). met o a.self.now.b a.self.now.g a.self.now.h a.self.now.pivot a.self.now.slack a.f s.result _ s.ensures c.if-s.true false w }

pub returns-else-s : goal.returns-else-s
returns-else-s c = let a = c.args in
    let s = c.solution-s in
    record { work = ap (λ (t : Solved). t.updates) s.ensures; tried = λ (o : List Float → Float). unmet o a.self.now.b a.self.now.g a.self.now.h a.self.now.pivot a.self.now.slack a.f s.result _ s.ensures c.if-s.false }
