-- A report of `diagnose`: each of its three tallies says of its points, the butterfly values, the slopes and the gaps in walking order, how many there are, how many are violations, and which has the first smallest value. Assumes nothing.
use mathlib.Core.Path.{◌≡◌, sym, subst}
use mathlib.Core.List.{List}
use lib.Ieee.{Float}
use Rattle.surface.specs.declared.types.Run.{Run}
use Rattle.surface.specs.declared.types.ShortExpiryPolicy.{ShortExpiryPolicy}
use Rattle.diagnostics.specs.declared.report.DiagnosticsConfig.{DiagnosticsConfig}
use Rattle.diagnostics.specs.declared.report.SurfaceDiagnostics.{SurfaceDiagnostics}
use Rattle.std.specs.Prelude.{Ok}
use Rattle.diagnostics.specs.Recorded.{Tallies}
use Rattle.diagnostics.specs.OnGrid.{butterflies_on, slopes_on, gaps_on, seen_by}
use Rattle.diagnostics.specs.Diagnostics.{diagnose_of}
use Rattle.diagnostics.proofs.FirstSmallest.{tally_says}
use Rattle.diagnostics.proofs.TalliesInOrder.{butterfly_tally, slope_tally}
use Rattle.diagnostics.proofs.GapsBetweenGood.{gaps_between_good}

module _ (run : Run) (policy : ShortExpiryPolicy) (ks taus : List Float) (tol : DiagnosticsConfig) (room : List Float) (d : SurfaceDiagnostics) (done : (diagnose_of run policy ks taus tol room).answer ≡ Ok d) where
  pub butterfly_says : Tallies (butterflies_on (seen_by run policy) ks taus) tol.butterfly_tolerance d.butterfly
  butterfly_says = subst (Tallies (butterflies_on (seen_by run policy) ks taus) tol.butterfly_tolerance) (sym (butterfly_tally run policy ks taus tol room d done)) (tally_says _ _)

  pub slope_says : Tallies (slopes_on (seen_by run policy) ks taus) tol.calendar_tolerance d.calendar_slope
  slope_says = subst (Tallies (slopes_on (seen_by run policy) ks taus) tol.calendar_tolerance) (sym (slope_tally run policy ks taus tol room d done)) (tally_says _ _)

  pub gap_says : Tallies (gaps_on (seen_by run policy) ks taus) tol.calendar_tolerance d.calendar_gap
  gap_says = subst (Tallies (gaps_on (seen_by run policy) ks taus) tol.calendar_tolerance) (sym (gaps_between_good run policy ks taus tol room d done)) (tally_says _ _)
