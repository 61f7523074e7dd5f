-- `entry::range_of` meets its contract. Assumes nothing.
use Rattle.std.proofs.Common.{rules, ◌≡◌, sym, refl, subst, ◌∙◌}
use lib.Ieee.{nan, neg, div, of_bits}
use Rattle.std.specs.List.{fold}
use Rattle.std.proofs.lemmas.List.Sums.{fold-append}
use Rattle.std.proofs.lemmas.Fn.{fold_over, slice_gives, fronts}
use Rattle.laws.specs.Floats.{◌/f◌, one, +0, min_of, max_of}
use Rattle.laws.proofs.Folds.{for_fold}
use Rattle.slice.specs.declared.KRange.{KRange}
use Rattle.entry.specs.Entry.{range_of}
use Rattle.entry.proofs.range_of.Goals as goal

abbrev none : KRange
none = record { lo = one /f +0; hi = neg (one /f +0) }

pub returns : goal.returns
unfolding range_of neg div of_bits
returns c =
    subst (λ l. c.fold.result ≡ fold (λ t k. record { lo = min_of t.lo k; hi = max_of t.hi k }) none l) c.iter.ensures.rest
    (fold_over fronts (λ y. y.now) _ (λ ys t. t ≡ fold (λ t k. record { lo = min_of t.lo k; hi = max_of t.hi k }) none ys) _ (λ ys a x b f' j k. rw (fold-append, ← j) (search rules))
    _ _ _ _ (slice_gives c.iter.result) refl c.fold.ensures.ran)
    ∙ sym (for_fold (λ t k. record { lo = min_of t.lo k; hi = max_of t.hi k }) nan c.args.k.now none)
