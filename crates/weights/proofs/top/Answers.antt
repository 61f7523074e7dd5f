-- `weights::top` meets its contract. Assumes nothing.
use Rattle.std.proofs.Common.{rules, ◌≡◌, sym, refl, subst, ◌∙◌}
use lib.Ieee.{nan}
use Rattle.std.specs.List.{fold}
use Rattle.std.proofs.lemmas.List.Sums.{fold-append}
use Rattle.std.proofs.lemmas.Fn.{fold_over, slice_gives, fronts}
use Rattle.laws.specs.Floats.{+0, min_of, max_of}
use Rattle.laws.proofs.Folds.{for_fold}
use Rattle.weights.specs.Weights.{top_of}
use Rattle.weights.proofs.top.Goals as goal

pub returns : goal.returns
unfolding top_of
returns c =
    subst (λ l. c.fold.result ≡ fold (λ t w. max_of t (min_of w c.args.cap)) +0 l) c.iter.ensures.rest
    (fold_over fronts (λ y. y.now) _ (λ ys t. t ≡ fold (λ t w. max_of t (min_of w c.args.cap)) +0 ys) _ (λ ys a x b f' j k. rw (fold-append, ← j) (search rules))
    _ _ _ _ (slice_gives c.iter.result) refl c.fold.ensures.ran)
    ∙ sym (for_fold (λ t w. max_of t (min_of w c.args.cap)) nan c.args.weights.now +0)
