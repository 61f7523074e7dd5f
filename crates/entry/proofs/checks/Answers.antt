-- `entry::checks` meets its contract. Assumes nothing.
use Rattle.std.proofs.Common.{sym, refl, ◌∙◌}
use borrow.Author.Tests.{le-leb, lt-leb}
use Rattle.laws.proofs.Choices.{if_true, if_false}
use Rattle.entry.specs.Entry.{checks_number}
use Rattle.entry.proofs.Known.{lengths_are}
use Rattle.entry.proofs.checks.Goals as goal

pub returns-then-not-lengths_hold : goal.returns-then-not-lengths_hold
unfolding checks_number
returns-then-not-lengths_hold c = rw (← c.lengths_hold.ensures, c.if-not-lengths_hold.true) refl

pub returns-then-not-sizes_hold : goal.returns-then-not-sizes_hold
unfolding checks_number
returns-then-not-sizes_hold c = rw (← c.lengths_hold.ensures, c.if-not-lengths_hold.false, ← c.sizes_hold.ensures, c.if-not-sizes_hold.true) refl

pub all_pass-requires : goal.all_pass-requires
all_pass-requires c = let l = lengths_are _ _ _ _ _ (sym c.lengths_hold.ensures ∙ c.if-not-lengths_hold.false) in (l.ws_long, l.weights_long)

pub returns-then-not-all_pass : goal.returns-then-not-all_pass
unfolding checks_number
returns-then-not-all_pass c = rw (← c.lengths_hold.ensures, c.if-not-lengths_hold.false, ← c.sizes_hold.ensures, c.if-not-sizes_hold.false, ← c.all_pass.ensures, c.if-not-all_pass.true) refl

pub returns-then-not-validate : goal.returns-then-not-validate
unfolding checks_number
returns-then-not-validate c = rw (← c.lengths_hold.ensures, c.if-not-lengths_hold.false, ← c.sizes_hold.ensures, c.if-not-sizes_hold.false, ← c.all_pass.ensures, c.if-not-all_pass.false, ← c.validate.ensures, c.if-not-validate.true) refl

pub returns-then-not-is_positive : goal.returns-then-not-is_positive
unfolding checks_number
returns-then-not-is_positive c = rw (← c.lengths_hold.ensures, c.if-not-lengths_hold.false, ← c.sizes_hold.ensures, c.if-not-sizes_hold.false, ← c.all_pass.ensures, c.if-not-all_pass.false, ← c.validate.ensures, c.if-not-validate.false, ← c.is_positive.ensures, c.if-not-is_positive.true) refl

pub returns-then-k-config : goal.returns-then-k-config
unfolding checks_number
returns-then-k-config c = rw (← c.lengths_hold.ensures, c.if-not-lengths_hold.false, ← c.sizes_hold.ensures, c.if-not-sizes_hold.false, ← c.all_pass.ensures, c.if-not-all_pass.false, ← c.validate.ensures, c.if-not-validate.false, ← c.is_positive.ensures, c.if-not-is_positive.false) (if_false _ (lt-leb _ _ c.if-k-config.true) refl)

pub returns-then-not-is_positive-2 : goal.returns-then-not-is_positive-2
unfolding checks_number
returns-then-not-is_positive-2 c = rw (← c.lengths_hold.ensures, c.if-not-lengths_hold.false, ← c.sizes_hold.ensures, c.if-not-sizes_hold.false, ← c.all_pass.ensures, c.if-not-all_pass.false, ← c.validate.ensures, c.if-not-validate.false, ← c.is_positive.ensures, c.if-not-is_positive.false) (if_true _ (le-leb _ _ c.if-k-config.false) (rw (← c.span_of.ensures, ← c.is_positive-2.ensures, c.if-not-is_positive-2.true) refl))

pub returns : goal.returns
unfolding checks_number
returns c = rw (← c.lengths_hold.ensures, c.if-not-lengths_hold.false, ← c.sizes_hold.ensures, c.if-not-sizes_hold.false, ← c.all_pass.ensures, c.if-not-all_pass.false, ← c.validate.ensures, c.if-not-validate.false, ← c.is_positive.ensures, c.if-not-is_positive.false) (if_true _ (le-leb _ _ c.if-k-config.false) (rw (← c.span_of.ensures, ← c.is_positive-2.ensures, c.if-not-is_positive-2.false) refl))
