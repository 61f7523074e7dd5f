-- `surface::answers::all_held` meets its contract. Assumes nothing.
use Rattle.std.proofs.Common.{rules, sym, ◌∙◌, take}
use Rattle.std.proofs.lemmas.Iterator.{YieldsList-from_slice}
use Rattle.std.proofs.lemmas.Iterator.Search.{all_from_yields_List}
use Rattle.surface.specs.Axis.{held_of}
use Rattle.surface.specs.Runs.{past}
use Rattle.surface.specs.Surface.{all_held}
use Rattle.surface.proofs.Fronts.{held_front}
use Rattle.laws.proofs.Folds.{for_all}
use mathlib.Core.Path.{◌≡◌, ap}
use Prim.Native.Nat.{ℕ, ◌-◌}
use native.Mathlib.Omega.{arith}
use Rattle.surface.proofs.answers.all_held.Goals as goal

all_of_them : (n : ℕ) → n - 0 ≡ n
all_of_them n = omega arith

pub returns : goal.returns
unfolding all_held
returns c =
    all_from_yields_List (λ s. held_of c.args.tau.now s.tau) c.all.new.self _ _ c.all.ensures.ran (YieldsList-from_slice (take c.args.n c.args.recs.now) (c.iter.ensures.rest ∙ ap (λ (m : ℕ). take m c.args.recs.now) (all_of_them c.args.n))) (λ x b q k. search rules)
    ∙ sym (for_all (λ s. held_of c.args.tau.now s.tau) past (take c.args.n c.args.recs.now))
    ∙ held_front c.args.recs.now c.args.n (search rules) c.args.tau.now
