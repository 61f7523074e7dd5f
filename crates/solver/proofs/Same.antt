-- Six rows of eight give the answer of the plain elimination, and its updates. Assumes nothing.
use mathlib.Core.Path.{◌≡◌, refl, sym, ◌∙◌}
use mathlib.Core.Bool.{Bool, true, false, cond}
use mathlib.Core.List.{List}
use Prim.Native.Nat.{ℕ, ◌+◌, ◌<◌}
use lib.ListN.{length}
use lib.Ieee.{Float}
use Rattle.laws.proofs.Choices.{false_true}
use Rattle.solver.specs.Solve.{System, standing, refused, eliminated_of, back_of, back_if}
use Rattle.solver.specs.Rows.{Reduced, room, reduced, from_in, back_in, back_if_in, solved_in, updates_in}
use Rattle.solver.proofs.Views.{Stands, Found}
use Rattle.solver.proofs.Eliminated.{Same, eliminated}
use Rattle.solver.proofs.Backed.{backed}
use Rattle.solver.proofs.Solutions.{back_updates}

-- the substitution back of both
backed_if : (n o : ℕ) (s : System) (u : Reduced) (x : List Float) → n + o ≡ 6 → length x ≡ 6 → Same n o s u → Found n o (back_if n s) (back_if_in n x u)
unfolding back_if
backed_if n o s u x six six-x p = go s.ok u.ok refl refl
  where
    go : (b c : Bool) → s.ok ≡ b → u.ok ≡ c → Found n o (cond b (back_of n s.m s.rhs s.updates) (refused s.updates)) (cond c (back_in n u.m x) (room false x))
    go true true h k = backed n o s.m s.rhs u.m x s.updates six six-x (p.stepped h)
    go false false h k = record { same = refl; values = λ z. false_true z }
    go true false h k = false_true (sym k ∙ sym p.ok ∙ h)
    go false true h k = false_true (sym h ∙ p.ok ∙ k)

-- the whole: what is found in the rows is the plain answer
pub solved : (n o : ℕ) (limit : Float) (m rhs t x : List Float) → n + o ≡ 6 → 0 < n → length m ≡ 36 → length rhs ≡ 6 → length t ≡ 48 → length x ≡ 6 → Stands n o m rhs t → Found n o (back_if n (eliminated_of n limit (standing m rhs))) (solved_in n limit t x)
unfolding solved_in
solved n o limit m rhs t x six l a b d e st =
    backed_if n o (eliminated_of n limit (standing m rhs)) (from_in 0 n limit (reduced true t 0)) x six e (eliminated n o limit m rhs t six l a b d st)

-- and it has as many updates
pub counted : (n o : ℕ) (limit : Float) (m rhs t : List Float) → n + o ≡ 6 → 0 < n → length m ≡ 36 → length rhs ≡ 6 → length t ≡ 48 → Stands n o m rhs t → updates_in n limit t ≡ (back_if n (eliminated_of n limit (standing m rhs))).updates
counted n o limit m rhs t six l a b d st = sym (back_updates n (eliminated_of n limit (standing m rhs)) ∙ (eliminated n o limit m rhs t six l a b d st).updates)
