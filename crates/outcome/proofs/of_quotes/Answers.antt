-- `outcome::of_quotes` meets its contract. Assumes nothing.
use mathlib.Core.Path.{◌≡◌, refl}
use Prim.Native.Nat.{ℕ}
use native.Mathlib.Omega.{arith}
use Rattle.laws.proofs.Choices.{number_stops, number_goes}
use Rattle.outcome.specs.Outcome.{bytes_outcome}
use Rattle.outcome.proofs.Coming.{none_written}
use Rattle.outcome.proofs.of_quotes.Goals as goal

pub returns-then-quotes-ne0 : goal.returns-then-quotes-ne0
unfolding bytes_outcome
returns-then-quotes-ne0 c = let no : ◌≡◌ {A = ℕ} 12 0 → ⊥ = λ e. omega arith in
    let e = c.refused.ensures in
    record { value = number_stops _ refl c.if-quotes-ne0.true e; residuals_after = none_written _ 12 0 _ _ e no; capped_after = none_written _ 12 0 _ _ e no }

pub returns : goal.returns
unfolding bytes_outcome
returns c = record { value = number_goes _ refl c.if-quotes-ne0.false c.of_records.ensures.value; residuals_after = c.of_records.ensures.residuals_after; capped_after = c.of_records.ensures.capped_after }
