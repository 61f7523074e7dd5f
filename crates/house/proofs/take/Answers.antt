-- `house::take` meets its contract. Assumes nothing.
use Rattle.std.proofs.Common.{refl, sym, ap, ◌∙◌, length}
use Rattle.laws.proofs.Choices.{if_true, if_false}
use Rattle.house.specs.Check.{k_of, w_of, weight_of}
use Rattle.house.proofs.Taking.{taken_is, column_none, column_took, columns_room}
use Rattle.house.proofs.take.Goals as goal

pub returns-then-not-columns_hold : goal.returns-then-not-columns_hold
returns-then-not-columns_hold c = let none = if_false _ (sym c.columns_hold.ensures ∙ c.if-not-columns_hold.true) refl ∙ taken_is _ _ c.as_chunks.ensures.front _ _ _ in
    record { value = ap length none; k_after = column_none k_of _ _ none; w_after = column_none w_of _ _ none; weight_after = column_none weight_of _ _ none }

pub keep-requires : goal.keep-requires
keep-requires c = columns_room _ _ _ _ c.columns_hold.ensures c.if-not-columns_hold.false

pub returns : goal.returns
returns c = let e = c.keep.ensures in
    let all = if_true _ (sym c.columns_hold.ensures ∙ c.if-not-columns_hold.false) refl ∙ taken_is _ _ c.as_chunks.ensures.front _ _ _ in
    record { value = e.value ∙ ap length all; k_after = column_took k_of _ _ _ _ all e.k_after; w_after = column_took w_of _ _ _ _ all e.w_after; weight_after = column_took weight_of _ _ _ _ all e.weight_after }
