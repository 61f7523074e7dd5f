-- `port::calibration::port_raw_default_config` meets its contract. Assumes nothing.
use Rattle.port.proofs.calibration.port_raw_default_config.Goals as goal

pub returns : goal.returns
returns c = record { sizes_after = cc; reals_after = cc }
