-- `records::FitConfig::validate` meets its contract. Assumes nothing.
use Rattle.records.specs.Settings.{settings_hold}
use Rattle.records.proofs.FitConfig.validate.Goals as goal

pub returns : goal.returns
unfolding settings_hold
returns c = cc
