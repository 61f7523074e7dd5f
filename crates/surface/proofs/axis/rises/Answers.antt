-- `surface::axis::rises` meets its contract. Assumes nothing.
use Rattle.std.proofs.Common.{rules, sym, ◌∙◌}
use lib.Ieee.{nan, lt}
use mathlib.Core.Bool.{true}
use Rattle.std.proofs.lemmas.Iterator.{YieldsList-from_slice, YieldsList-from_zip}
use Rattle.std.proofs.lemmas.Iterator.Adapters.{YieldsList-from_skip}
use Rattle.std.proofs.lemmas.Iterator.Search.{all_from_yields_List}
use Rattle.surface.specs.Runs.{rises_of}
use Rattle.surface.proofs.Scans.{for_pairs}
use Rattle.surface.proofs.axis.rises.Goals as goal

pub returns : goal.returns
unfolding rises_of
returns c =
    all_from_yields_List (λ q. lt q.0 q.1) c.all.new.self _ _ c.all.ensures.ran
    (YieldsList-from_zip (YieldsList-from_slice c.args.v.now cc) (YieldsList-from_skip 1 (YieldsList-from_slice c.args.v.now cc) cc)) (λ x b q k. search rules)
    ∙ sym (for_pairs (λ x y. lt x y) nan c.args.v.now true)
