-- `cell::inner_on` meets its contract. Assumes nothing.
use mathlib.Core.Path.{refl, ap, ap₂, ◌∙◌}
use mathlib.Core.List.{List}
use lib.ListN.{length}
use lib.Ieee.{Float}
use borrow.Author.Tests.{leb-true}
use Rattle.laws.specs.Floats.{at}
use Rattle.laws.specs.Room.{filled_on}
use Rattle.laws.proofs.Choices.{if_true, if_false, both}
use Rattle.cell.specs.Least.{h_of}
use Rattle.cell.specs.Cell.{fit_model, posed_of}
use Rattle.cell.specs.Lent.{ys_on, hs_on, inner_on}
use Rattle.cell.proofs.Defaults.{none_found}
use Rattle.cell.proofs.Laws.{lengths_in_range, posed_on}
use Rattle.cell.proofs.inner_on.Goals as goal

pub returns-then-not-ks-ws : goal.returns-then-not-ks-ws
unfolding inner_on
returns-then-not-ks-ws c = let t = c.if-not-ks-ws.true in
    record { value = none_found _ c.default.ensures ∙ if_false _ t refl; ys_after = if_false _ t refl; hs_after = if_false _ t refl }

pub returns : goal.returns
unfolding ys_on hs_on
returns c = let a = c.args in
    let t = c.if-not-ks-ws.false in
    let y = c.fill_ys.ensures in
    let h = lengths_in_range _ _ _ _ (leb-true _ _ (both _ _ t).0) c.with_one.ensures ∙ ap (λ (t : List Float). filled_on (length a.ks.now) (λ i. h_of (at t i)) a.hs.now) y in
    let cell = c.posed.ensures ∙ ap₂ (λ (y h : List Float). posed_of fit_model (at y) (at h) a.ws.now a.weights.now a.l a.sigma) y h in
    record { value = posed_on a.ks.now a.ws.now a.weights.now a.l a.m a.sigma a.ys.now a.hs.now t cell; ys_after = if_true {x = ys_on a.ks.now a.m a.sigma a.ys.now} a.ys.now t y; hs_after = if_true {x = hs_on a.ks.now a.m a.sigma a.ys.now a.hs.now} a.hs.now t h }
