-- `surface::axis::holds` meets its contract. Assumes nothing.
use Rattle.std.proofs.Common.{rules, sym, ◌∙◌}
use lib.Dec.{eqb}
use lib.Ieee.{nan, binary64, to_bits}
use Rattle.std.proofs.lemmas.Iterator.{YieldsList-from_slice}
use Rattle.std.proofs.lemmas.Iterator.Search.{any_from_yields_List}
use Rattle.surface.specs.Axis.{held_of}
use Rattle.surface.proofs.Scans.{for_any}
use Rattle.surface.proofs.axis.holds.Goals as goal

pub returns : goal.returns
unfolding held_of
returns c =
    any_from_yields_List (λ y. eqb (to_bits binary64 y) (to_bits binary64 c.args.x)) c.any.new.self _ _ c.any.ensures.ran (YieldsList-from_slice c.args.v.now cc) (λ x b q k. search rules)
    ∙ sym (for_any (λ y. eqb (to_bits binary64 y) (to_bits binary64 c.args.x)) nan c.args.v.now)
