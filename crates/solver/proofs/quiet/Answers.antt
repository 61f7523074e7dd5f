-- `solver::quiet` meets its contract. Assumes nothing.
use mathlib.Core.Path.{sym, ◌∙◌}
use lib.Ieee.{of_bits}
use Rattle.laws.proofs.Floats.{is_nan_lem}
use Rattle.solver.proofs.quiet.Goals as goal

pub returns-then-is_nan : goal.returns-then-is_nan
unfolding of_bits
returns-then-is_nan c = sym (is_nan_lem _ (sym c.is_nan.ensures.value ∙ c.if-is_nan.true))
