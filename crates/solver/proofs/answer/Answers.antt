-- `solver::answer` meets its contract. Assumes nothing.
use mathlib.Core.Path.{sym, ap, ap₂, ◌∙◌}
use mathlib.Core.Bool.{true}
use mathlib.Core.List.{List}
use Prim.Native.Nat.{ℕ}
use lib.Ieee.{Float}
use Rattle.laws.proofs.Choices.{if_true, if_false}
use Rattle.solver.specs.Solve.{refused}
use Rattle.solver.specs.Rows.{Room, front_of, answer_of}
use Rattle.std.proofs.lemmas.Option.{MatchOption-at_some, MatchOption-at_none}
use Rattle.solver.proofs.answer.Goals as goal

pub returns-in-Some : goal.returns-in-Some
unfolding answer_of
returns-in-Some c =
    let s = MatchOption-at_some _ _ _ c.in-Some.is c.solve_rows-s.ensures.unknowns in
    if_true _ (sym (ap (λ (s : Room). s.ok) s)) (ap₂ (λ (x : List Float) (u : ℕ). record { x = x; ok = true; updates = u }) (c.first.ensures ∙ ap (λ (s : Room). front_of c.args.n s.m) s) c.solve_rows-s.ensures.counted)

pub returns-in-None : goal.returns-in-None
unfolding answer_of
returns-in-None c =
    let s = MatchOption-at_none _ _ c.in-None.is c.solve_rows-s.ensures.unknowns in
    c.refused.ensures ∙ if_false _ s (ap refused c.solve_rows-s.ensures.counted)
