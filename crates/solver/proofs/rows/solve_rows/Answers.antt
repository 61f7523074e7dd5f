-- `solver::rows::solve_rows` meets its contract. Assumes nothing.
use mathlib.Core.Path.{◌≡◌, sym, ap, subst}
use mathlib.Core.Bool.{false, true}
use lib.ListN.{replicate}
use Rattle.std.specs.Option.{MatchOption}
use Rattle.laws.specs.Floats.{+0}
use Rattle.solver.specs.Rows.{Room, Reduced, room, back_in, back_if_in, solved_in}
use Rattle.solver.proofs.rows.solve_rows.Goals as goal

pub returns-in-Ok-clause-unknowns : goal.returns-in-Ok-clause-unknowns
unfolding solved_in
returns-in-Ok-clause-unknowns c =
    let a = c.args in
    let e : back_in a.n c.eliminate.new.m (replicate 6 +0) ≡ solved_in a.n a.limit a.m.now (replicate 6 +0) = ap (back_if_in a.n (replicate 6 +0)) c.in-Ok.ensures in
    subst (λ (s : Room). MatchOption c.back.result (s.ok ≡ false) (λ x. room true x ≡ s)) e c.back.ensures

pub returns-in-Err-clause-unknowns : goal.returns-in-Err-clause-unknowns
unfolding solved_in
returns-in-Err-clause-unknowns c = sym (ap (λ (s : Reduced). (back_if_in c.args.n (replicate 6 +0) s).ok) c.in-Err.ensures)
