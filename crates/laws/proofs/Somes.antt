-- A test made at each number below n: it fails at some number, or holds at each. Assumes nothing.
use mathlib.Core.Path.{◌≡◌, sym}
use mathlib.Core.Bool.{Bool, true, false, ◌&&◌}
use Prim.Native.Nat.{ℕ, ◌<◌}
use native.Mathlib.Omega.{arith}
use native.Mathlib.Nat.{not-suc-le-zero}
use Rattle.laws.specs.Loop.{for}
use Rattle.laws.specs.Some.{Some}
use Rattle.laws.proofs.Choices.{both, split, false_true}
use Rattle.laws.proofs.Loops.{for_ind, below_next}

module _ (p : ℕ → Bool) (n : ℕ) where
  abbrev all : Bool
  all = for 0 n (λ i b. b && p i) true

  pub some_fails : all ≡ false → Some n (λ i. p i ≡ false)
  some_fails =
      for_ind (λ i b. b && p i) (λ (k : ℕ) (b : Bool). b ≡ false → Some k (λ i. p i ≡ false)) n
      (λ j b l h e. split b (p j) e (λ x. let s = h x in (s.0, omega (arith, s.1), s.2)) (λ x. (j, omega arith, x)))
      true (λ e. false_true (sym e))

  pub none_fails : all ≡ true → (i : ℕ) → i < n → p i ≡ true
  none_fails =
      for_ind (λ i b. b && p i) (λ (k : ℕ) (b : Bool). b ≡ true → (i : ℕ) → i < k → p i ≡ true) n
      (λ j b l h e. let g = both b (p j) e in below_next (λ (i : ℕ). p i ≡ true) j (h g.0) g.1)
      true (λ e i l. absurd (not-suc-le-zero l))
