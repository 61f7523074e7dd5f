-- A residual and the sums as the code works them out are those defined. Assumes nothing.
use Rattle.std.proofs.Common.{◌≡◌, true, eqb, List, length, sym, eq-eqb, eqb-true}
use lib.Ieee.{Float}
use Rattle.laws.proofs.Choices.{both}
use Rattle.slice.specs.declared.SviSlice.{SviSlice}
use Rattle.judge.specs.Judge.{sums_of, matched_of, matched_sums}

-- the lengths, from their test
pub matched_are : (ks ws weights : List Float) → matched_of ks ws weights ≡ true → (length ws ≡ length ks) × (length weights ≡ length ks)
unfolding matched_of
matched_are ks ws weights h =
    let p = both (eqb (length ks) (length ws)) (eqb (length ks) (length weights)) h in
    (sym (eqb-true _ _ p.0), sym (eqb-true _ _ p.1))

-- with equal lengths the sums are those of all observations
pub sums_are : (s : SviSlice) (ks ws weights : List Float) → (length ws ≡ length ks) × (length weights ≡ length ks) → matched_sums s ks ws weights ≡ sums_of s ks ws weights
unfolding matched_sums matched_of
sums_are s ks ws weights l = rw (eq-eqb (length ks) (length ws) (sym l.0), eq-eqb (length ks) (length weights) (sym l.1))
