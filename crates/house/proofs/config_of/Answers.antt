-- `house::config_of` meets its contract. Assumes nothing.
use borrow.Author.Tests.{eq-eqb, ne_eqb}
use Rattle.house.specs.File.{config_of}
use Rattle.laws.proofs.Choices.{if_true, if_false}
use Rattle.house.proofs.config_of.Goals as goal

pub returns-then-settings-eq0 : goal.returns-then-settings-eq0
unfolding config_of
returns-then-settings-eq0 c = if_true _ (eq-eqb _ _ c.if-settings-eq0.true) c.defaults.ensures

pub returns : goal.returns
unfolding config_of
returns c = if_false _ (ne_eqb _ _ c.if-settings-eq0.false) c.settings_at.ensures
