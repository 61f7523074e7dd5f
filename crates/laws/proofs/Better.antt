-- The better of two, where each may have a value or none: the one with the smaller value, the older on a tie. Faces of a cell and cells of a pass are compared so. Assumes nothing.
use mathlib.Core.Path.{◌≡◌, refl}
use mathlib.Core.Bool.{Bool, true, false, not, ◌&&◌, ◌||◌, cond}
use lib.Dec.{T}
use lib.Ieee.{Float, lt}
use Rattle.laws.proofs.Order.{lt_le_trans, lt_not_self, lt→le}

module _ {S : Type 0} (some : S → Bool) (value : S → Float) where
  -- b is as good as c: where c has a value, b has one too, and c's is not below it
  pub record AsGood (b c : S) : Type 0 where
    pub has : T (some c) → T (some b)
    pub least : T (some c) → T (lt (value c) (value b)) → ⊥

  -- c is taken in b's place where it has a value, and b has none or a larger one
  abbrev taken : S → S → S
  taken c b = cond (some c && (not (some b) || lt (value c) (value b))) c b

  -- what is taken is as good as c
  pub taken_new : (c b : S) → AsGood (taken c b) c
  taken_new c b = go (some c) (some b) (lt (value c) (value b)) refl refl refl
    where
      go : (x y z : Bool) → some c ≡ x → some b ≡ y → lt (value c) (value b) ≡ z → AsGood (cond (x && (not y || z)) c b) c
      go false y z p q r = record { has = λ h. absurd (rw p at h); least = λ h. absurd (rw p at h) }
      go true false z p q r = record { has = λ h. h; least = λ h. lt_not_self (value c) }
      go true true true p q r = record { has = λ h. h; least = λ h. lt_not_self (value c) }
      go true true false p q r = record { has = λ h. rw q tt; least = λ h k. rw r at k }

  -- and as good as all that b is as good as
  pub taken_old : (c b x : S) → AsGood b x → AsGood (taken c b) x
  taken_old c b x g = go (some c) (some b) (lt (value c) (value b)) refl refl refl
    where
      go : (u y z : Bool) → some c ≡ u → some b ≡ y → lt (value c) (value b) ≡ z → AsGood (cond (u && (not y || z)) c b) x
      go false y z p q r = g
      go true false z p q r = record { has = λ h. rw p tt; least = λ h. absurd (rw q at (g.has h)) }
      go true true true p q r =
          record { has = λ h. rw p tt; least = λ h k. g.least h (lt_le_trans (value x) (value c) (value b) k (lt→le _ _ (rw r tt))) }
      go true true false p q r = g
