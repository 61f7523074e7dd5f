-- `house::check_intake` meets its contract. Assumes nothing.
use Rattle.std.proofs.Common.{refl, sym, ◌∙◌}
use Rattle.laws.proofs.Choices.{if_true, if_false}
use Rattle.house.proofs.Taking.{intake_is}
use Rattle.house.proofs.check_intake.Goals as goal

pub returns-then-not-room_holds : goal.returns-then-not-room_holds
returns-then-not-room_holds c = if_false _ (sym c.room_holds.ensures ∙ c.if-not-room_holds.true) refl ∙ intake_is _ _ c.as_chunks.ensures.front _ _ _

pub returns-then-not-sizes_hold : goal.returns-then-not-sizes_hold
returns-then-not-sizes_hold c =
    if_true _ (sym c.room_holds.ensures ∙ c.if-not-room_holds.false)
    (if_false _ (sym c.sizes_hold.ensures ∙ c.if-not-sizes_hold.true) refl)
    ∙ intake_is _ _ c.as_chunks.ensures.front _ _ _

pub returns-then-not-all_pass : goal.returns-then-not-all_pass
returns-then-not-all_pass c =
    if_true _ (sym c.room_holds.ensures ∙ c.if-not-room_holds.false)
    (if_true _ (sym c.sizes_hold.ensures ∙ c.if-not-sizes_hold.false)
    (if_false _ (sym c.all_pass.ensures ∙ c.if-not-all_pass.true) refl))
    ∙ intake_is _ _ c.as_chunks.ensures.front _ _ _

pub returns-then-not-all_agree : goal.returns-then-not-all_agree
returns-then-not-all_agree c =
    if_true _ (sym c.room_holds.ensures ∙ c.if-not-room_holds.false)
    (if_true _ (sym c.sizes_hold.ensures ∙ c.if-not-sizes_hold.false)
    (if_true _ (sym c.all_pass.ensures ∙ c.if-not-all_pass.false)
    (if_false _ (sym c.all_agree.ensures ∙ c.if-not-all_agree.true) refl)))
    ∙ intake_is _ _ c.as_chunks.ensures.front _ _ _

pub returns : goal.returns
returns c =
    if_true _ (sym c.room_holds.ensures ∙ c.if-not-room_holds.false)
    (if_true _ (sym c.sizes_hold.ensures ∙ c.if-not-sizes_hold.false)
    (if_true _ (sym c.all_pass.ensures ∙ c.if-not-all_pass.false)
    (if_true _ (sym c.all_agree.ensures ∙ c.if-not-all_agree.false) refl)))
    ∙ intake_is _ _ c.as_chunks.ensures.front _ _ _
