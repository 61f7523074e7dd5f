-- `surface::types::Nodes::of` meets its contract. Assumes nothing.
use mathlib.Core.Path.{◌≡◌, refl, ap, ◌∙◌}
use lib.ListN.{replicate}
use borrow.Author.Rules.{rules}
use borrow.Author.Tests.{lt-ltb}
use Rattle.laws.specs.Floats.{+0}
use Rattle.laws.proofs.Choices.{if_true}
use Rattle.surface.specs.Lookup.{tolerances_of}
use Rattle.surface.specs.Surface.{tols_of}
use Rattle.surface.proofs.Fronts.{tolerances_front}
use Rattle.surface.proofs.types.Nodes.of.Goals as goal

pub returns-then-n-le32 : goal.returns-then-n-le32
returns-then-n-le32 c =
    let run = c.args.run.now in
    let h : c.tolerances-tols.result ≡ tols_of run = c.tolerances-tols.ensures ∙ tolerances_front c.taus_of-taus.result run.count (search rules) ∙ ap (λ l. tolerances_of l run.count) c.taus_of-taus.ensures in
    λ i. record { count = run.count; taus = c.taus_of-taus.ensures i; tols = h i }

pub returns-else-n-le32 : goal.returns-else-n-le32
unfolding tolerances_of
returns-else-n-le32 c =
    let run = c.args.run.now in
    let h : replicate 32 +0 ≡ tols_of run = if_true _ (lt-ltb _ _ c.if-n-le32.false) refl in
    λ i. record { count = run.count; taus = c.taus_of-taus.ensures i; tols = h i }
