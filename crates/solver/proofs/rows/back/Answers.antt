-- `solver::rows::back` meets its contract: what the rows that are left make of the present unknowns is the whole. Assumes nothing.
use mathlib.Core.Path.{◌∙◌}
use Rattle.solver.specs.Rows.{back_in}
use Rattle.solver.proofs.Steps.{back_refused, back_known}
use Rattle.solver.proofs.rows.back.Goals as goal

pub returns-in_err-unknown : goal.returns-in_err-unknown
unfolding back_in
returns-in_err-unknown c = rw c.from_residual.ensures (back_refused 1 _ _ _ (c.in_err-unknown.ensures))

pub returns-in_err-unknown-2 : goal.returns-in_err-unknown-2
unfolding back_in
returns-in_err-unknown-2 c = rw c.from_residual-in_err-unknown-2.ensures (back_refused 2 _ _ _ (c.in_err-unknown-2.ensures ∙ c.in_ok-unknown.ensures))

pub returns-in_err-unknown-3 : goal.returns-in_err-unknown-3
unfolding back_in
returns-in_err-unknown-3 c = rw c.from_residual-in_err-unknown-3.ensures (back_refused 3 _ _ _ (c.in_err-unknown-3.ensures ∙ c.in_ok-unknown-2.ensures ∙ c.in_ok-unknown.ensures))

pub returns-in_err-unknown-4 : goal.returns-in_err-unknown-4
unfolding back_in
returns-in_err-unknown-4 c = rw c.from_residual-in_err-unknown-4.ensures (back_refused 4 _ _ _ (c.in_err-unknown-4.ensures ∙ c.in_ok-unknown-3.ensures ∙ c.in_ok-unknown-2.ensures ∙ c.in_ok-unknown.ensures))

pub returns-in_err-unknown-5 : goal.returns-in_err-unknown-5
unfolding back_in
returns-in_err-unknown-5 c = rw c.from_residual-in_err-unknown-5.ensures (back_refused 5 _ _ _ (c.in_err-unknown-5.ensures ∙ c.in_ok-unknown-4.ensures ∙ c.in_ok-unknown-3.ensures ∙ c.in_ok-unknown-2.ensures ∙ c.in_ok-unknown.ensures))

pub returns-in_err-unknown-6 : goal.returns-in_err-unknown-6
unfolding back_in
returns-in_err-unknown-6 c = rw c.from_residual-in_err-unknown-6.ensures (back_refused 6 _ _ _ (c.in_err-unknown-6.ensures ∙ c.in_ok-unknown-5.ensures ∙ c.in_ok-unknown-4.ensures ∙ c.in_ok-unknown-3.ensures ∙ c.in_ok-unknown-2.ensures ∙ c.in_ok-unknown.ensures))

pub returns : goal.returns
unfolding back_in
returns c = back_known _ _ _ c.requires (c.in_ok-unknown-6.ensures ∙ c.in_ok-unknown-5.ensures ∙ c.in_ok-unknown-4.ensures ∙ c.in_ok-unknown-3.ensures ∙ c.in_ok-unknown-2.ensures ∙ c.in_ok-unknown.ensures)
