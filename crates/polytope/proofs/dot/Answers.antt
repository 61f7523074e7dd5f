-- `polytope::dot` meets its contract. Assumes nothing.
use mathlib.Core.Path.{refl}
use lib.Ieee.{of_bits}
use borrow.Author.Tests.{le-ltb}
use Rattle.laws.proofs.Choices.{if_false}
use Rattle.polytope.specs.Polytope.{dot_of}
use Rattle.polytope.proofs.dot.Goals as goal

pub returns : goal.returns
unfolding dot_of of_bits
returns c = if_false _ (le-ltb _ _ c.if-c-lt7.false) refl
