-- `surface::lookup::on_node` meets its contract. Assumes nothing.
use Rattle.surface.specs.Lookup.{on_node}
use Rattle.laws.proofs.Choices.{if_true, if_false}
use mathlib.Core.Path.{refl}
use borrow.Author.Tests.{eq-eqb, ne_eqb}
use Rattle.surface.proofs.lookup.on_node.Goals as goal

pub returns-then-j-eq0 : goal.returns-then-j-eq0
unfolding on_node
returns-then-j-eq0 c = if_true _ (eq-eqb _ _ c.if-j-eq0.true) refl

pub returns : goal.returns
unfolding on_node
returns c = if_false _ (ne_eqb _ _ c.if-j-eq0.false) refl
