-- `judge::summed` meets its contract. Assumes nothing.
use Rattle.std.proofs.Common.{rules, ◌≡◌, true, sym, ◌∙◌}
use lib.Ieee.{Float, nan}
use Rattle.std.specs.List.{fold}
use Rattle.std.proofs.lemmas.List.Sums.{fold-append}
use Rattle.std.proofs.lemmas.Fn.{fold_over, fronts}
use Rattle.std.proofs.lemmas.Iterator.{YieldsList-from_slice, YieldsList-from_zip, zips}
use Rattle.laws.specs.Floats.{+0}
use Rattle.laws.proofs.Folds.{for_columns}
use Rattle.slice.specs.declared.SviSlice.{SviSlice}
use Rattle.judge.specs.declared.Sums.{Sums}
use Rattle.judge.specs.Judge.{residual_at, added_to, sums_of}
use Rattle.judge.proofs.summed.Goals as goal

abbrev none : Sums
none = record { ok = true; squares = +0; params = +0; weight = +0 }

abbrev turn : SviSlice → Sums → Float → Float → Float → Sums
turn s t k w weight = added_to t (residual_at s k w) w weight

pub returns : goal.returns
unfolding sums_of
returns c =
    let a = c.args in
    fold_over (zips (zips fronts fronts) fronts) (λ p. ((p.0.0.now, p.0.1.now), p.1.now)) _ (λ ys t. t ≡ fold (λ t p. turn a.s t p.0.0 p.0.1 p.1) none ys) _ (λ ys b x d f' j k. rw (fold-append, ← j) (search rules))
    c.zip-2.result _ _ _ (YieldsList-from_zip {s = c.zip-2.result} (YieldsList-from_zip (YieldsList-from_slice a.k.now cc) (YieldsList-from_slice a.w.now cc)) (YieldsList-from_slice a.weights.now cc)).runs (cc) c.fold.ensures.ran
    ∙ sym (for_columns (turn a.s) nan nan nan a.k.now a.w.now a.weights.now c.requires.0 c.requires.1 none)
