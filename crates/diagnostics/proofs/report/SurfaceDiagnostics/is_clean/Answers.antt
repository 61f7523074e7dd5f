-- `diagnostics::report::SurfaceDiagnostics::is_clean` meets its contract. Assumes nothing.
use Rattle.diagnostics.specs.Diagnostics.{report_clean}
use mathlib.Core.Bool.{◌&&◌}
use lib.Dec.{eqb}
use Rattle.diagnostics.proofs.report.SurfaceDiagnostics.is_clean.Goals as goal

pub returns : goal.returns
unfolding report_clean
returns c = λ i. ((c.is_clean-butterfly.ensures i && c.is_clean-slope.ensures i) && c.is_clean-gap.ensures i) && eqb c.args.self.evaluation_failures 0
