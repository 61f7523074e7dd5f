-- `roots::lengths::from_guess` meets its contract. Assumes nothing.
use mathlib.Core.Path.{sym, ◌∙◌, ap, subst}
use native.Mathlib.Nat.{add_comm}
use lib.Dec.{T}
use lib.Ieee.{binary64, fits}
use Rattle.laws.proofs.Floats.{self_same}
use Rattle.laws.proofs.Patterns.{below_nan}
use Rattle.roots.specs.Root.{root_units}
use Rattle.roots.proofs.AtPatterns.{beside_one}
use Rattle.roots.proofs.lengths.from_guess.Goals as goal

pub float_to_bits-a : goal.float_to_bits-a
float_to_bits-a c = self_same _ c.if-y.false

pub float_to_bits-c : goal.float_to_bits-c
float_to_bits-c c = self_same _ c.if-guess.false

pub float_from_bits-result : goal.float_from_bits-result
float_from_bits-result c = below_nan c.from_pattern.result c.from_pattern.ensures.1

pub returns-then-a-lt-ONE : goal.returns-then-a-lt-ONE
returns-then-a-lt-ONE c = let held : T (fits binary64 c.args.y) = subst T (sym c.well_formed.0.1) tt in
    c.from_pattern.ensures.0 ∙ ap root_units (add_comm _ _) ∙ beside_one c.args.y held c.if-a-ge-INFINITY.false

pub float_from_bits-result-2 : goal.float_from_bits-result-2
float_from_bits-result-2 c = below_nan c.from_pattern-2.result c.from_pattern-2.ensures.1

pub returns : goal.returns
returns c = let held : T (fits binary64 c.args.y) = subst T (sym c.well_formed.0.1) tt in
    c.from_pattern-2.ensures.0 ∙ beside_one c.args.y held c.if-a-ge-INFINITY.false
