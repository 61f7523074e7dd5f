-- The capped positions as they are listed: what one turn of the loop does to the lent room. Assumes nothing.
use mathlib.Core.Path.{◌≡◌, refl, sym, ap, ◌∙◌}
use mathlib.Core.Bool.{Bool, true, false, cond}
use mathlib.Core.List.{List, [], ◌∷◌, ◌++◌}
use Prim.Native.Nat.{ℕ, ◌+◌, ◌≤◌, ◌<◌}
use native.Mathlib.Omega.{arith}
use lib.ListN.{length, drop, set, length-set, length-append}
use lib.Ieee.{Float, lt}
use Rattle.laws.specs.Loop.{turns, for}
use Rattle.laws.specs.Floats.{at}
use Rattle.laws.proofs.Rooms.{put_next}
use Rattle.weights.specs.Weights.{capped_at}
use Rattle.laws.proofs.Loops.{for_next}

module _ (cap : Float) (ws : List Float) where
  -- the positions among the first i
  abbrev pub capped_to : ℕ → List ℕ
  capped_to i = for 0 i (λ i l. cond (lt cap (at ws i)) (l ++ (i ∷ [])) l) []

  -- n of them stand in out, which is otherwise o
  pub record Listed (i n : ℕ) (o out : List ℕ) : Type 0 where
    pub within : i ≤ length ws
    pub few : n ≤ i
    pub long : length out ≡ length o
    pub count : n ≡ length (capped_to i)
    pub is : out ≡ capped_to i ++ drop n o

  pub listed_start : (o : List ℕ) → Listed 0 0 o o
  unfolding turns
  listed_start o = record { within = omega arith; few = omega arith; long = refl; count = refl; is = refl }

  pub listed_yes : (i n : ℕ) (o out : List ℕ) → i < length ws → length ws ≤ length o → lt cap (at ws i) ≡ true → Listed i n o out → Listed (i + 1) (n + 1) o (set out n i)
  listed_yes i n o out l m t h =
      let next : capped_to (i + 1) ≡ capped_to i ++ (i ∷ []) =
      for_next (λ i l. cond (lt cap (at ws i)) (l ++ (i ∷ [])) l) [] i ∙ ap (λ (b : Bool). cond b (capped_to i ++ (i ∷ [])) (capped_to i)) t in
      record {
        within = omega arith;
        few = omega (arith, h.few);
        long = length-set out n i ∙ h.long;
        count = sym (ap length next ∙ length-append (capped_to i) (i ∷ []) ∙ ap (λ (k : ℕ). k + 1) (sym h.count));
        is = ap (λ (l : List ℕ). set l n i) h.is ∙ put_next 0 (capped_to i) o n (n + 1) i (sym h.count) (omega (arith, h.few, l, m)) (omega arith) ∙ ap (λ (l : List ℕ). l ++ drop (n + 1) o) (sym next);
      }

  pub listed_no : (i n : ℕ) (o out : List ℕ) → i < length ws → lt cap (at ws i) ≡ false → Listed i n o out → Listed (i + 1) n o out
  listed_no i n o out l t h =
      let next : capped_to (i + 1) ≡ capped_to i =
      for_next (λ i l. cond (lt cap (at ws i)) (l ++ (i ∷ [])) l) [] i ∙ ap (λ (b : Bool). cond b (capped_to i ++ (i ∷ [])) (capped_to i)) t in
      record {
        within = omega arith;
        few = omega (arith, h.few);
        long = h.long;
        count = h.count ∙ ap length (sym next);
        is = h.is ∙ ap (λ (l : List ℕ). l ++ drop n o) (sym next);
      }

  pub listed_end : (i n : ℕ) (o out : List ℕ) → length ws ≤ i → Listed i n o out → (n ≡ length (capped_at cap ws)) × (out ≡ capped_at cap ws ++ drop n o)
  unfolding capped_at
  listed_end i n o out l h =
      let e : i ≡ length ws = omega (arith, l, h.within) in
      (h.count ∙ ap (λ (k : ℕ). length (capped_to k)) e, h.is ∙ ap (λ (k : ℕ). capped_to k ++ drop n o) e)
