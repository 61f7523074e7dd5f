-- `calibrate::ending::Fitting::end` meets its contract. Assumes nothing.
use Rattle.std.proofs.Common.{◌∙◌}
use mathlib.Core.Path.{refl}
use Rattle.judge.proofs.Judging.{sums_are}
use Rattle.calibrate.specs.End.{end_of}
use Rattle.calibrate.proofs.Checked.{none_if_ok}
use Rattle.calibrate.proofs.ending.Fitting.end.Goals as goal

pub returns-then-is_err : goal.returns-then-is_err
unfolding end_of
returns-then-is_err c = rw (none_if_ok c.check.result c.check.ensures, ← c.is_err.ensures.value, c.if-is_err.true) c.after.ensures

pub returns-then-not-params_hold : goal.returns-then-not-params_hold
unfolding end_of
returns-then-not-params_hold c = rw (none_if_ok c.check.result c.check.ensures, ← c.is_err.ensures.value, c.if-is_err.false, ← (c.sums_of-t.ensures ∙ sums_are _ _ _ _ c.args.self.matched), ← c.params_hold.ensures, c.if-not-params_hold.true) c.after-then-not-params_hold.ensures

pub returns-then-not-rmse_holds : goal.returns-then-not-rmse_holds
unfolding end_of
returns-then-not-rmse_holds c = rw (none_if_ok c.check.result c.check.ensures, ← c.is_err.ensures.value, c.if-is_err.false, ← (c.sums_of-t.ensures ∙ sums_are _ _ _ _ c.args.self.matched), ← c.params_hold.ensures, c.if-not-params_hold.false, ← c.rmse_of-rmse.ensures, ← c.rmse_holds.ensures, c.if-not-rmse_holds.true) refl

pub returns : goal.returns
unfolding end_of
returns c = rw (none_if_ok c.check.result c.check.ensures, ← c.is_err.ensures.value, c.if-is_err.false, ← (c.sums_of-t.ensures ∙ sums_are _ _ _ _ c.args.self.matched), ← c.params_hold.ensures, c.if-not-params_hold.false, ← c.rmse_of-rmse.ensures, ← c.rmse_holds.ensures, c.if-not-rmse_holds.false) c.accepted.ensures
