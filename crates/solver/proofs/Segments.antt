-- Loops that rewrite or exchange segments of a list, place by place; what a loop keeps; two loops in step, at a distance too; turns that do nothing. Assumes nothing.
use mathlib.Core.Path.{◌≡◌, refl, sym, ap, ◌∙◌}
use mathlib.Core.Bool.{Bool, true, false}
use mathlib.Core.List.{List}
use Prim.Native.Nat.{ℕ, zero, suc, ◌+◌, ◌-◌, ◌≤◌, ◌<◌}
use native.Mathlib.Omega.{arith}
use native.Mathlib.Nat.{add-zero}
use lib.Dec.{eqb}
use lib.ListN.{length, set, length-set}
use lib.Seq.{get_or-set_same, get_or-set_other}
use lib.Ieee.{Float, nan}
use borrow.Author.Tests.{eqb-true, eqb-false}
use Rattle.laws.specs.Loop.{turns, for}
use Rattle.laws.specs.Floats.{at}
use Rattle.laws.proofs.Loops.{turns_ind, for_turns}
use Rattle.solver.specs.Solve.{exchange}

-- two numbers are equal or they are not
pub by_eq : {P : Type 0} (i r : ℕ) → (i ≡ r → P) → ((i ≡ r → ⊥) → P) → P
by_eq {P} i r same other = go (eqb i r) refl
  where
    go : (b : Bool) → eqb i r ≡ b → P
    go true e = same (eqb-true i r e)
    go false e = other (eqb-false i r e)

-- ---- one segment is rewritten

-- the places base + a to base + b hold the values of H, the others what they held
pub record Rewritten (base a b : ℕ) (H : ℕ → Float) (l₀ l : List Float) : Type 0 where
  pub size : length l ≡ length l₀
  pub inside : (j : ℕ) → a ≤ j → j < b → at l (base + j) ≡ H j
  pub outside : (k : ℕ) → ((j : ℕ) → a ≤ j → j < b → k ≡ base + j → ⊥) → at l k ≡ at l₀ k

module _ (base a b : ℕ) (G : ℕ → List Float → Float) (H : ℕ → Float) (l₀ : List Float) (ab : a ≤ b) (room : base + b ≤ length l₀)
    (same : (j : ℕ) (l : List Float) → a ≤ j → j < b → Rewritten base a j H l₀ l → G j l ≡ H j) where
  -- one place more
  rewrite_step : (j : ℕ) (l : List Float) → a ≤ j → j < b → Rewritten base a j H l₀ l → Rewritten base a (j + 1) H l₀ (set l (base + j) (G j l))
  rewrite_step j l p q r =
      record {
        size = length-set l (base + j) (G j l) ∙ r.size;
        inside = λ i c d.
            by_eq i j
            (λ e. rw e (get_or-set_same l (base + j) (G j l) nan (omega (arith, r.size)) ∙ same j l p q r))
            (λ ne. get_or-set_other l (base + j) (base + i) (G j l) nan (λ e. ne (omega arith)) ∙ r.inside i c (omega arith));
        outside = λ k h. get_or-set_other l (base + j) k (G j l) nan (λ e. h j p (omega arith) e) ∙ r.outside k (λ i c d e. h i c (omega arith) e);
      }

  -- a loop that sets each place of a segment to its value rewrites the segment
  pub rewritten : Rewritten base a b H l₀ (for a b (λ j l. set l (base + j) (G j l)) l₀)
  rewritten =
      (turns_ind (λ j l. set l (base + j) (G j l)) (λ (j : ℕ) (l : List Float). (a ≤ j) × Rewritten base a j H l₀ l) b
      (λ j l q r. (omega (arith, r.0), rewrite_step j l r.0 q r.1)) (b - a) a l₀ (omega arith)
      (omega arith, record { size = refl; inside = λ j c d. absurd (omega arith); outside = λ k h. refl })
      ).1

-- ---- two segments change places

-- the places A + a to A + b hold what the places B + a to B + b held, and the other way round, the others what they held
pub record Exchanged (A B a b : ℕ) (l₀ l : List Float) : Type 0 where
  pub size : length l ≡ length l₀
  pub first : (j : ℕ) → a ≤ j → j < b → at l (A + j) ≡ at l₀ (B + j)
  pub second : (j : ℕ) → a ≤ j → j < b → at l (B + j) ≡ at l₀ (A + j)
  pub outside : (k : ℕ) → ((j : ℕ) → a ≤ j → j < b → k ≡ A + j → ⊥) → ((j : ℕ) → a ≤ j → j < b → k ≡ B + j → ⊥) → at l k ≡ at l₀ k

module _ (A B a b : ℕ) (l₀ : List Float) (ab : a ≤ b) (roomA : A + b ≤ length l₀) (roomB : B + b ≤ length l₀)
    (apart : (i j : ℕ) → i < b → j < b → A + i ≡ B + j → i ≡ j) where
  -- one pair of places more
  exchange_step : (j : ℕ) (l : List Float) → a ≤ j → j < b → Exchanged A B a j l₀ l → Exchanged A B a (j + 1) l₀ (exchange l (A + j) (B + j))
  exchange_step j l p q r =
      record {
        size = length-set l₁ (B + j) (at l (A + j)) ∙ size₁ ∙ r.size;
        first = λ i c d. by_eq i j (λ e. rw e first_here) (λ ne. keeps (A + i) (λ e. ne (omega arith)) (λ e. ne (apart i j (omega arith) q e)) ∙ r.first i c (omega arith));
        second = λ i c d. by_eq i j (λ e. rw e second_here) (λ ne. keeps (B + i) (λ e. ne (sym (apart j i q (omega arith) (sym e)))) (λ e. ne (omega arith)) ∙ r.second i c (omega arith));
        outside = λ k h g.
            keeps k (λ e. h j p (omega arith) e) (λ e. g j p (omega arith) e)
            ∙ r.outside k (λ i c d e. h i c (omega arith) e) (λ i c d e. g i c (omega arith) e);
      }
    where
      l₁ : List Float
      l₁ = set l (A + j) (at l (B + j))

      size₁ : length l₁ ≡ length l
      size₁ = length-set l (A + j) (at l (B + j))

      keeps : (k : ℕ) → (k ≡ A + j → ⊥) → (k ≡ B + j → ⊥) → at (exchange l (A + j) (B + j)) k ≡ at l k
      keeps k h g = get_or-set_other l₁ (B + j) k (at l (A + j)) nan g ∙ get_or-set_other l (A + j) k (at l (B + j)) nan h

      from_a : at l (A + j) ≡ at l₀ (A + j)
      from_a = r.outside (A + j) (λ i c d e. absurd (omega arith)) (λ i c d e. absurd (omega (arith, apart j i q (omega arith) e)))

      from_b : at l (B + j) ≡ at l₀ (B + j)
      from_b = r.outside (B + j) (λ i c d e. absurd (omega (arith, apart i j (omega arith) q (sym e)))) (λ i c d e. absurd (omega arith))

      second_here : at (exchange l (A + j) (B + j)) (B + j) ≡ at l₀ (A + j)
      second_here = get_or-set_same l₁ (B + j) (at l (A + j)) nan (omega (arith, size₁, r.size)) ∙ from_a

      first_here : at (exchange l (A + j) (B + j)) (A + j) ≡ at l₀ (B + j)
      first_here =
          by_eq (A + j) (B + j) (λ e. ap (at (exchange l (A + j) (B + j))) e ∙ second_here ∙ ap (at l₀) e)
          (λ ne. get_or-set_other l₁ (B + j) (A + j) (at l (A + j)) nan ne ∙ get_or-set_same l (A + j) (at l (B + j)) nan (omega (arith, r.size)) ∙ from_b)

  -- a loop that exchanges the segments place by place exchanges them
  pub exchanged : Exchanged A B a b l₀ (for a b (λ j l. exchange l (A + j) (B + j)) l₀)
  exchanged =
      (turns_ind (λ j l. exchange l (A + j) (B + j)) (λ (j : ℕ) (l : List Float). (a ≤ j) × Exchanged A B a j l₀ l) b
      (λ j l q r. (omega (arith, r.0), exchange_step j l r.0 q r.1)) (b - a) a l₀ (omega arith)
      (omega arith, record { size = refl; first = λ j c d. absurd (omega arith); second = λ j c d. absurd (omega arith); outside = λ k h g. refl })
      ).1

-- ---- what a loop keeps

-- what each turn of a loop over a..b keeps, the loop keeps
pub loop_keeps : {S : Type 0} (P : S → Type 0) (g : ℕ → S → S) (a b : ℕ) → ((i : ℕ) → a ≤ i → i < b → (s : S) → P s → P (g i s)) → (s : S) → P s → P (for a b g s)
loop_keeps {S} P g a b keeps s p = for_turns g (λ (k : ℕ) (t : S). P t) a b (λ k t l w. keeps (a + k) (omega arith) l t w) s p

-- loops whose turns agree on what the one keeps agree
module _ {S : Type 0} (P : S → Type 0) (f g : ℕ → S → S) (a b : ℕ) (keeps : (i : ℕ) → a ≤ i → i < b → (s : S) → P s → P (g i s))
    (same : (i : ℕ) → a ≤ i → i < b → (s : S) → P s → f i s ≡ g i s) where
  turns_agree : (k i : ℕ) (s : S) → a ≤ i → k ≤ b - i → P s → turns f k i s ≡ turns g k i s
  unfolding turns
  turns_agree zero i s l r p = refl
  turns_agree (suc k) i s l r p =
      ap (turns f k (i + 1)) (same i l (omega arith) s p) ∙ turns_agree k (i + 1) (g i s) (omega arith) (omega arith) (keeps i l (omega arith) s p)

  pub loop_agrees : (s : S) → P s → for a b f s ≡ for a b g s
  loop_agrees s p = turns_agree (b - a) a s (omega arith) (omega arith) p

-- ---- two loops in step

-- what each turn and the one o further on keep, the loops over a..b and, o further on, over c..d keep
module _ {S T : Type 0} (f : ℕ → S → S) (g : ℕ → T → T) (R : ℕ → S → T → Type 0) (a b o : ℕ)
    (step : (j : ℕ) (s : S) (t : T) → a ≤ j → j < b → R j s t → R (j + 1) (f j s) (g (j + o) t)) where
  turns_both : (k i : ℕ) (s : S) (t : T) → a ≤ i → i + k ≡ b → R i s t → R b (turns f k i s) (turns g k (i + o) t)
  unfolding turns
  turns_both zero i s t p e r = rw (← e) (rw add-zero r)
  turns_both (suc k) i s t p e r =
      let next : i + o + 1 ≡ i + 1 + o = omega arith in
      rw next (turns_both k (i + 1) (f i s) (g (i + o) t) (omega arith) (omega arith) (step i s t p (omega arith) r))

  pub for_both : (c d : ℕ) (s : S) (t : T) → a ≤ b → c ≡ a + o → d ≡ b + o → R a s t → R b (for a b f s) (for c d g t)
  for_both c d s t p e h r =
      let count : d - c ≡ b - a = omega arith in
      rw (count, e) (turns_both (b - a) a s t (omega arith) (omega arith) r)

-- turns that do nothing may be left out
pub turns_skip : {S : Type 0} (f : ℕ → S → S) (k i l : ℕ) (s : S) → ((j : ℕ) → i ≤ j → j < i + k → f j s ≡ s) → turns f (k + l) i s ≡ turns f l (i + k) s
unfolding turns
turns_skip f zero i l s h =
    let e : 0 + l ≡ l = omega arith in
    rw (e, add-zero) refl
turns_skip f (suc k) i l s h =
    let e : suc k + l ≡ suc (k + l) = omega arith in
    let d : i + 1 + k ≡ i + suc k = omega arith in
    ap (λ (n : ℕ). turns f n i s) e ∙ ap (turns f (k + l) (i + 1)) (h i (omega arith) (omega arith)) ∙ turns_skip f k (i + 1) l s (λ j p q. h j (omega arith) (omega arith))
    ∙ ap (λ (n : ℕ). turns f l n s) d
