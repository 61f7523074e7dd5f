-- `judge::highest` meets its contract. Assumes nothing.
use Rattle.std.proofs.Common.{rules, ◌≡◌, sym, refl, subst, ◌∙◌}
use lib.Ieee.{nan}
use Rattle.std.specs.List.{fold}
use Rattle.std.proofs.lemmas.List.Sums.{fold-append}
use Rattle.std.proofs.lemmas.Fn.{fold_over, slice_gives, fronts}
use Rattle.laws.specs.Floats.{max_of}
use Rattle.laws.proofs.Folds.{for_fold}
use Rattle.judge.specs.Judge.{highest_of}
use Rattle.judge.proofs.highest.Goals as goal

pub returns : goal.returns
unfolding highest_of
returns c =
    subst (λ l. c.fold.result ≡ fold max_of c.args.a_min l) c.iter.ensures.rest
    (fold_over fronts (λ y. y.now) _ (λ ys t. t ≡ fold max_of c.args.a_min ys) _ (λ ys a x b f' j k. rw (fold-append, ← j) (search rules))
    _ _ _ _ (slice_gives c.iter.result) refl c.fold.ensures.ran)
    ∙ sym (for_fold max_of nan c.args.w.now c.args.a_min)
