-- `judge::sums_of` meets its contract. Assumes nothing.
use Rattle.std.proofs.Common.{rules, sym, ◌∙◌}
use Rattle.judge.specs.Judge.{matched_sums}
use Rattle.judge.proofs.Judging.{matched_are}
use Rattle.judge.proofs.sums_of.Goals as goal

pub summed-requires : goal.summed-requires
summed-requires c = matched_are _ _ _ (sym c.matched.ensures ∙ c.if-matched.true)

pub returns-then-matched : goal.returns-then-matched
unfolding matched_sums
returns-then-matched c = rw (← c.matched.ensures, c.if-matched.true) c.summed.ensures

pub returns : goal.returns
unfolding matched_sums
returns c = rw (← c.matched.ensures, c.if-matched.false) (search rules)
