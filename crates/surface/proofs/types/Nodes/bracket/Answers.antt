-- `surface::types::Nodes::bracket` meets its contract. Assumes nothing.
use Rattle.std.specs.Prelude.{Ok, Err}
use mathlib.Core.Path.{refl, sym, ap, ◌∙◌}
use borrow.Author.Rules.{rules}
use borrow.Author.Tests.{lt-ltb, le-ltb}
use Rattle.laws.proofs.Choices.{if_true, if_false}
use Rattle.refusals.proofs.Numbers.{check_passes, check_refuses}
use Rattle.surface.specs.Lookup.{bracket_of, lookup_of}
use Rattle.surface.proofs.Fronts.{node_found, node_missed, inside_front}
use Rattle.surface.proofs.types.Nodes.bracket.Goals as goal

pub returns-then-n-gt32 : goal.returns-then-n-gt32
unfolding bracket_of
returns-then-n-gt32 c = if_true _ (lt-ltb _ _ c.if-n-gt32.true) refl

pub returns-in_err-check_point : goal.returns-in_err-check_point
unfolding bracket_of
returns-in_err-check_point c = if_false _ (le-ltb _ _ c.if-n-gt32.false) (check_refuses _ c.from_residual.result _ c.from_residual.ensures.1 c.in_err-check_point.ensures)

pub returns-in-Some : goal.returns-in-Some
unfolding bracket_of lookup_of
returns-in-Some c = let nodes = c.args.self.now in
    let f = node_found nodes.taus nodes.count (search rules) nodes.tols (search rules) c.args.tau (sym c.in-Some.is ∙ c.node.ensures) in
    if_false _ (le-ltb _ _ c.if-n-gt32.false) (check_passes Err c.in_ok-check_point.ensures
    (rw f.1 (if_true _ (lt-ltb _ _ f.0) (ap Ok c.on_node.ensures))))

pub returns-then-tau-self : goal.returns-then-tau-self
unfolding bracket_of lookup_of
returns-then-tau-self c = let nodes = c.args.self.now in
    let f = node_missed nodes.taus nodes.count (search rules) nodes.tols (search rules) c.args.tau (c.in_default.ensures) in
    if_false _ (le-ltb _ _ c.if-n-gt32.false) (check_passes Err c.in_ok-check_point.ensures
    (if_false _ (le-ltb _ _ f) (if_true _ c.if-tau-self.true c.short_of.ensures)))

pub returns : goal.returns
unfolding bracket_of lookup_of
returns c = let nodes = c.args.self.now in
    let f = node_missed nodes.taus nodes.count (search rules) nodes.tols (search rules) c.args.tau (c.in_default.ensures) in
    if_false _ (le-ltb _ _ c.if-n-gt32.false) (check_passes Err c.in_ok-check_point.ensures
    (if_false _ (le-ltb _ _ f) (if_false _ c.if-tau-self.false (c.inside.ensures ∙ inside_front nodes.taus nodes.count (search rules) c.args.tau))))
