-- The system of a face, constraint by constraint: what each size has, and its answer. Assumes nothing.
use mathlib.Core.Path.{◌≡◌, sym, ap, ap₂, ◌∙◌}
use mathlib.Core.List.{List}
use Prim.Native.Nat.{ℕ, ◌+◌}
use lib.ListN.{set}
use lib.Ieee.{Float}
use Rattle.laws.specs.Loop.{turns, for}
use Rattle.laws.specs.Floats.{at}
use Rattle.solver.specs.Solve.{under_of}
use Rattle.solver.specs.declared.Solved.{Solved}
use Rattle.faces.specs.declared.Face.{Face}
use Rattle.faces.specs.Faces.{member_of}
use Rattle.cell.specs.Cell.{slot_of, kkt_of, rhs_of}
use Rattle.cell.specs.Shared.{block_of, side_of, system_answer}

-- the matrix
module _ (base g : List Float) (f : Face) where
  kkt_sized : (n : ℕ) → f.size ≡ n → for 0 n (λ slot m. slot_of g 3 (member_of f slot) (3 + slot) m) base ≡ kkt_of base g 3 f
  unfolding kkt_of
  kkt_sized n e = ap (λ (n : ℕ). for 0 n (λ slot m. slot_of g 3 (member_of f slot) (3 + slot) m) base) (sym e)

  pub kkt_none : f.size ≡ 0 → base ≡ kkt_of base g 3 f
  unfolding turns
  kkt_none e = kkt_sized 0 e

  pub kkt_one : {m : List Float} → m ≡ slot_of g 3 f.a 3 base → f.size ≡ 1 → m ≡ kkt_of base g 3 f
  unfolding turns
  kkt_one h e = h ∙ kkt_sized 1 e

  pub kkt_two : {m n : List Float} → m ≡ slot_of g 3 f.a 3 base → n ≡ slot_of g 3 f.b 4 m → f.size ≡ 2 → n ≡ kkt_of base g 3 f
  unfolding turns
  kkt_two h i e = i ∙ ap (slot_of g 3 f.b 4) h ∙ kkt_sized 2 e

  pub kkt_three : {m n o : List Float} → m ≡ slot_of g 3 f.a 3 base → n ≡ slot_of g 3 f.b 4 m → o ≡ slot_of g 3 f.c 5 n → f.size ≡ 3 → o ≡ kkt_of base g 3 f
  unfolding turns
  kkt_three h i j e = j ∙ ap (slot_of g 3 f.c 5) (i ∙ ap (slot_of g 3 f.b 4) h) ∙ kkt_sized 3 e

-- the right side
module _ (right h : List Float) (f : Face) where
  rhs_sized : (n : ℕ) → f.size ≡ n → for 0 n (λ slot t. set t (3 + slot) (at h (member_of f slot))) right ≡ rhs_of right h 3 f
  unfolding rhs_of
  rhs_sized n e = ap (λ (n : ℕ). for 0 n (λ slot t. set t (3 + slot) (at h (member_of f slot))) right) (sym e)

  pub rhs_none : f.size ≡ 0 → right ≡ rhs_of right h 3 f
  unfolding turns
  rhs_none e = rhs_sized 0 e

  pub rhs_one : f.size ≡ 1 → set right 3 (at h f.a) ≡ rhs_of right h 3 f
  unfolding turns
  rhs_one e = rhs_sized 1 e

  pub rhs_two : f.size ≡ 2 → set (set right 3 (at h f.a)) 4 (at h f.b) ≡ rhs_of right h 3 f
  unfolding turns
  rhs_two e = rhs_sized 2 e

  pub rhs_three : f.size ≡ 3 → set (set (set right 3 (at h f.a)) 4 (at h f.b)) 5 (at h f.c) ≡ rhs_of right h 3 f
  unfolding turns
  rhs_three e = rhs_sized 3 e

-- the answer of a face of k constraints, from its system
pub answers :
    (b g h : List Float) (limit : Float) (f : Face) (k : ℕ) {m t : List Float} {r : Solved} → f.size ≡ k → m ≡ kkt_of (block_of b) g 3 f → t ≡ rhs_of (side_of b) h 3 f
    → r ≡ under_of (3 + k) m t limit → r ≡ system_answer b g h limit f
answers b g h limit f k e p q s =
    s ∙ ap₂ (λ (m t : List Float). under_of (3 + k) m t limit) p q ∙ ap (λ (k : ℕ). under_of (3 + k) (kkt_of (block_of b) g 3 f) (rhs_of (side_of b) h 3 f) limit) (sym e)
