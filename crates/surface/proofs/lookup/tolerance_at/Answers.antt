-- `surface::lookup::tolerance_at` meets its contract. Assumes nothing.
use Rattle.laws.proofs.Choices.{if_true, if_false}
use mathlib.Core.Path.{◌≡◌, ◌∙◌}
use borrow.Author.Tests.{eq-eqb, ne_eqb, lt-ltb, le-ltb}
use Rattle.laws.specs.Floats.{◌*f◌, at}
use Rattle.surface.specs.Lookup.{tolerance_of, before_of, after_of, node_tolerance}
use Rattle.surface.proofs.lookup.tolerance_at.Goals as goal
use Rattle.surface.proofs.lookup.tolerance_at.Goals.{then-i-ne0, else-i-ne0}

pub returns-then-i-taus : goal.returns-then-i-taus
unfolding tolerance_of before_of after_of
returns-then-i-taus c =
    let l = c.args.taus.now in
    let i = c.args.i in
    let e : c.if-i-ne0.tol ≡ before_of l i (node_tolerance *f at l i) = elim c.if-i-ne0.branch [ then-i-ne0 w ↦ if_false _ (ne_eqb _ _ w.if-i-ne0.true) (w.tol-is ∙ w.capped-tol.ensures) | else-i-ne0 w ↦ if_true _ (eq-eqb _ _ w.if-i-ne0.false) w.tol-is ] in
    rw (← e) (if_true _ (lt-ltb _ _ c.if-i-taus.true) c.capped.ensures)

pub returns : goal.returns
unfolding tolerance_of before_of after_of
returns c =
    let l = c.args.taus.now in
    let i = c.args.i in
    let e : c.if-i-ne0.tol ≡ before_of l i (node_tolerance *f at l i) = elim c.if-i-ne0.branch [ then-i-ne0 w ↦ if_false _ (ne_eqb _ _ w.if-i-ne0.true) (w.tol-is ∙ w.capped-tol.ensures) | else-i-ne0 w ↦ if_true _ (eq-eqb _ _ w.if-i-ne0.false) w.tol-is ] in
    if_false _ (le-ltb _ _ c.if-i-taus.false) e
