-- `diagnostics::report::check_tolerance` meets its contract. Assumes nothing.
use mathlib.Core.Path.{refl}
use Rattle.diagnostics.specs.Diagnostics.{tolerance_number}
use Rattle.diagnostics.proofs.report.check_tolerance.Goals as goal

pub returns-then-b-c : goal.returns-then-b-c
unfolding tolerance_number
returns-then-b-c c = rw (← c.is_finite.ensures, ← c.is_finite-2.ensures, c.if-b-c.true) refl

pub returns : goal.returns
unfolding tolerance_number
returns c = rw (← c.is_finite.ensures, ← c.is_finite-2.ensures, c.if-b-c.false) refl
