-- The number that names a policy reads back as that policy; 0 alone reads as Reject. Assumes nothing.
use mathlib.Core.Path.{◌≡◌, refl}
use Prim.Native.Nat.{ℕ}
use native.Mathlib.Omega.{arith}
use lib.Dec.{eqb}
use borrow.Author.Tests.{eqb-true}
use Rattle.laws.proofs.Choices.{cond_test}
use Rattle.surface.specs.declared.types.ShortExpiryPolicy.{ShortExpiryPolicy}
use Rattle.surface.specs.declared.types.ShortExpiryPolicy.TheVariants.{Reject, ConstantVol}
use Rattle.rows.specs.Answers.{policy_of, policy_number}

pub policy_back : (policy : ShortExpiryPolicy) → policy_of (policy_number policy) ≡ policy
unfolding policy_of
policy_back Reject = refl
policy_back ConstantVol = refl

pub reject_named : (n : ℕ) → policy_of n ≡ Reject → n ≡ 0
unfolding policy_of
reject_named n = cond_test (λ (p : ShortExpiryPolicy). p ≡ Reject → n ≡ 0) (eqb n 0) (λ h e. eqb-true n 0 h) (λ h e. let z : ◌≡◌ {A = ℕ} 0 1 = cc in absurd (omega arith))
