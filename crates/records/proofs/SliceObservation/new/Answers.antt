-- `records::SliceObservation::new` meets its contract. Assumes nothing.
use mathlib.Core.Path.{refl}
use Rattle.records.specs.Observation.{observed_of}
use Rattle.records.proofs.SliceObservation.new.Goals as goal

pub returns-then-passes : goal.returns-then-passes
unfolding observed_of
returns-then-passes c = rw (← c.passes.ensures, c.if-passes.true) refl

pub returns : goal.returns
unfolding observed_of
returns c = rw (← c.passes.ensures, c.if-passes.false) refl
