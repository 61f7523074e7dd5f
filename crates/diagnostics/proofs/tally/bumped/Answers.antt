-- `diagnostics::tally::bumped` meets its contract. Assumes nothing.
use Rattle.laws.proofs.Choices.{if_true, if_false}
use mathlib.Core.Path.{◌≡◌, refl, ◌∙◌}
use mathlib.Core.Bool.{Bool, true, false, cond}
use Prim.Native.Nat.{ℕ, ◌+◌, ◌≤◌, min}
use native.Mathlib.Omega.{arith}
use lib.Dec.{ltb}
use borrow.Author.Tests.{ltb-true, ltb-false}
use Rattle.diagnostics.specs.Tally.{one_more}
use Rattle.diagnostics.proofs.tally.bumped.Goals as goal

-- a count that fits stops at the top
topped : (n : ℕ) (b : Bool) → ltb n 18446744073709551615 ≡ b → n ≤ 18446744073709551615 → min (n + 1) 18446744073709551615 ≡ cond b (n + 1) n
topped n true e h = let l = ltb-true n 18446744073709551615 e in omega arith
topped n false e h = let l = ltb-false n 18446744073709551615 e in omega arith

pub returns-then-yes : goal.returns-then-yes
unfolding one_more
returns-then-yes c = let f = c.ranges.n.fits in if_true _ c.if-yes.true (c.saturating_add.ensures ∙ topped c.args.n (ltb c.args.n 18446744073709551615) refl (omega (arith, f)))

pub returns-else-yes : goal.returns-else-yes
unfolding one_more
returns-else-yes c = if_false _ c.if-yes.false refl
