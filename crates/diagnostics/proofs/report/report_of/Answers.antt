-- `diagnostics::report::report_of` meets its contract. Assumes nothing.
use mathlib.Core.Path.{refl}
use Rattle.diagnostics.specs.Diagnostics.{report_of}
use mathlib.Core.Path.{refl}
use mathlib.Core.Path.{refl}
use Rattle.diagnostics.proofs.report.report_of.Goals as goal

pub returns : goal.returns
unfolding report_of
returns c = refl
