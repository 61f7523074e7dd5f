-- `moves::found_of` meets its contract. Assumes nothing.
use Rattle.std.proofs.Common.{refl}
use Rattle.moves.specs.Moves.{found_of}
use Rattle.moves.proofs.found_of.Goals as goal

pub returns-then-improving : goal.returns-then-improving
unfolding found_of
returns-then-improving c = rw (← c.improving.ensures, c.if-improving.true) refl

pub returns : goal.returns
unfolding found_of
returns c = rw (← c.improving.ensures, c.if-improving.false) refl
