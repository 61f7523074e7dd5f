-- `diagnostics::tally::Check::recorded` meets its contract. Assumes nothing.
use Rattle.diagnostics.specs.Tally.{recorded_of}
use Rattle.diagnostics.proofs.tally.Check.recorded.Goals as goal

pub returns : goal.returns
unfolding recorded_of
returns c = λ i. record { points = c.bumped.ensures i; violations = c.bumped-2.ensures i; worst = c.worse.ensures i }
