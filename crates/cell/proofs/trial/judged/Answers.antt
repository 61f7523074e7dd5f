-- `cell::trial::judged` meets its contract. Assumes nothing.
use mathlib.Core.Path.{refl, sym, ap, ◌∙◌}
use mathlib.Core.Bool.{Bool, not, ◌&&◌, ◌||◌}
use lib.Ieee.{lt}
use Rattle.laws.proofs.Choices.{if_true, if_false}
use Rattle.cell.proofs.Laws.{judge_is}
use Rattle.cell.proofs.trial.judged.Goals as goal

pub returns-then-is_finite-best : goal.returns-then-is_finite-best
returns-then-is_finite-best c = let a = c.args in
    let e = ap (λ (t : Bool). t && (not a.best.some || lt a.v a.best.objective)) (sym c.is_finite.ensures) in
    if_true _ (e ∙ c.if-is_finite-best.true) refl ∙ judge_is a.f a.x a.v a.best

pub returns : goal.returns
returns c = let a = c.args in
    let e = ap (λ (t : Bool). t && (not a.best.some || lt a.v a.best.objective)) (sym c.is_finite.ensures) in
    if_false _ (e ∙ c.if-is_finite-best.false) refl ∙ judge_is a.f a.x a.v a.best
