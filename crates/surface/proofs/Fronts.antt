-- The definitions of a surface read no more of its arrays than the first n; and where a segment that they answer lies. Assumes nothing.
use mathlib.Core.Path.{◌≡◌, refl, sym, ap, ap₂, ◌∙◌, subst}
use mathlib.Core.Bool.{Bool, true, false, ◌&&◌, cond}
use mathlib.Core.List.{List}
use Prim.Native.Nat.{ℕ, suc, ◌+◌, ◌-◌, ◌≤◌, ◌<◌}
use native.Mathlib.Omega.{arith}
use lib.Dec.{eqb, ltb}
use lib.Ieee.{Float, lt, nan}
use lib.ListN.{length, take, drop, set, replicate}
use Rattle.std.specs.Prelude.{Some, None, Result, Ok, Err, zip}
use Rattle.std.specs.List.{position, position_or_len}
use Rattle.std.proofs.lemmas.List.{get_or-take, length-take-le, length-drop}
use Rattle.std.proofs.lemmas.Slice.Zip.{length-zip}
use borrow.Author.Tests.{ltb-true, ltb-false}
use Rattle.laws.specs.Floats.{◌-f◌, ◌*f◌, ◌/f◌, +0, quarter, at, min_of}
use Rattle.laws.proofs.Choices.{cond_test}
use Rattle.laws.proofs.Loops.{for_same}
use Rattle.point.specs.Point.{point_number}
use Rattle.slice.specs.declared.SviSlice.{SviSlice}
use Rattle.slice.specs.Slice.{number_of}
use Rattle.surface.specs.declared.types.Bracket.{Bracket}
use Rattle.surface.specs.declared.types.Bracket.TheVariants.{Segment, Short}
use Rattle.surface.specs.declared.types.ShortExpiryPolicy.{ShortExpiryPolicy}
use Rattle.surface.specs.declared.types.ShortExpiryPolicy.TheVariants.{Reject, ConstantVol}
use Rattle.surface.specs.Runs.{bad_turn, first_bad, past, rises_of}
use Rattle.surface.specs.Axis.{held_of}
use Rattle.surface.specs.Lookup.{before_of, after_of, tolerance_of, tolerances_of, near_of, node_of, beyond_of, on_node, short_of, inside_of, lookup_of, bracket_of, node_tolerance}
use Rattle.surface.specs.Surface.{all_held}
use Rattle.surface.proofs.Scans.{for_alike, first_alike, first_pair, first_later, found, missed}

-- ---- the first n records

module _ (recs : List SviSlice) (n : ℕ) (l : n ≤ length recs) where
  pub bad_front : first_bad (take n recs) (length (take n recs)) ≡ first_bad recs n
  unfolding first_bad
  bad_front = rw (length-take-le n recs l) (for_same (bad_turn (take n recs)) (bad_turn recs) n (λ i h s. ap (λ r. cond (eqb s 0) (number_of r) s) (get_or-take n recs i past h)) 0)

  pub held_front : (taus : List Float) → all_held (take n recs) (length (take n recs)) taus ≡ all_held recs n taus
  unfolding all_held
  held_front taus = rw (length-take-le n recs l) (for_alike _ _ 0 n (λ i _ h ok. ap (λ r. ok && held_of taus r.tau) (get_or-take n recs i past h)) true)

-- ---- the first n taus

module _ (taus : List Float) (n : ℕ) (l : n ≤ length taus) where
  here : (i : ℕ) → i < n → at (take n taus) i ≡ at taus i
  here i h = get_or-take n taus i nan h

  pub rises_front : rises_of (take n taus) (length (take n taus)) ≡ rises_of taus n
  unfolding rises_of
  rises_front = rw (length-take-le n taus l) (for_alike _ _ 1 n (λ i a h ok. ap₂ (λ x y. ok && lt x y) (here (i - 1) (omega arith)) (here i h)) true)

  after_front : (i : ℕ) (tol : Float) → i < n → after_of (take n taus) n i tol ≡ after_of taus n i tol
  unfolding after_of
  after_front i tol h = go (ltb (i + 1) n) refl
    where
      go : (b : Bool) → ltb (i + 1) n ≡ b → cond b (min_of tol (quarter *f (at (take n taus) (i + 1) -f at (take n taus) i))) tol ≡ cond b (min_of tol (quarter *f (at taus (i + 1) -f at taus i))) tol
      go true e = ap₂ (λ x y. min_of tol (quarter *f (x -f y))) (here (i + 1) (ltb-true (i + 1) n e)) (here i h)
      go false e = refl

  tolerance_front : (i : ℕ) → i < n → tolerance_of (take n taus) n i ≡ tolerance_of taus n i
  unfolding tolerance_of before_of
  tolerance_front i h =
      after_front i _ h
      ∙ ap₂ (λ x y. after_of taus n i (cond (eqb i 0) (node_tolerance *f x) (min_of (node_tolerance *f x) (quarter *f (x -f y))))) (here i h) (here (i - 1) (omega arith))

  pub tolerances_front : tolerances_of (take n taus) (length (take n taus)) ≡ tolerances_of taus n
  unfolding tolerances_of
  tolerances_front = rw (length-take-le n taus l) (ap (λ x. cond (ltb 32 n) (replicate 32 +0) x) (for_alike _ _ 0 n (λ i _ h s. ap (set s i) (tolerance_front i h)) (replicate 32 +0)))

  pub beyond_front : (tau : Float) → beyond_of (take n taus) n tau ≡ beyond_of taus n tau
  unfolding beyond_of
  beyond_front tau = first_alike _ _ 1 n (λ i _ h. ap (lt tau) (here i h))

  inside_at : (tau : Float) (h : ℕ) → inside_of (take n taus) n tau h ≡ inside_of taus n tau h
  unfolding inside_of
  inside_at tau h = go (ltb h n) refl
    where
      go : (b : Bool) → ltb h n ≡ b
          → ◌≡◌ {A = Result Bracket ℕ} (cond b (Ok (Segment (h - 1) h ((tau -f at (take n taus) (h - 1)) /f (at (take n taus) h -f at (take n taus) (h - 1))))) (Err 37)) (cond b (Ok (Segment (h - 1) h ((tau -f at taus (h - 1)) /f (at taus h -f at taus (h - 1))))) (Err 37))
      go true e = let m = ltb-true h n e in ap₂ (λ x y. Ok (Segment (h - 1) h ((tau -f x) /f (y -f x)))) (here (h - 1) (omega arith)) (here h m)
      go false e = refl

  pub inside_front : (tau : Float) → inside_of (take n taus) (length (take n taus)) tau (beyond_of (take n taus) (length (take n taus)) tau) ≡ inside_of taus n tau (beyond_of taus n tau)
  inside_front tau = rw (length-take-le n taus l) (inside_at tau _ ∙ ap (inside_of taus n tau) (beyond_front tau))

  module _ (tols : List Float) (m : n ≤ length tols) (tau : Float) where
    node_front : node_of (take n taus) (take n tols) n tau ≡ node_of taus tols n tau
    unfolding node_of
    node_front = first_alike _ _ 0 n (λ i _ h. ap₂ (λ x y. near_of x tau y) (here i h) (get_or-take n tols i nan h))

    node_is : position_or_len (λ q. near_of q.0 tau q.1) (zip (take n taus) (take n tols)) ≡ node_of taus tols n tau
    unfolding node_of
    node_is =
        sym (first_pair (λ x y. near_of x tau y) nan nan (take n taus) (take n tols) (length-take-le n tols m ∙ sym (length-take-le n taus l)))
        ∙ ap (λ k. node_of (take n taus) (take n tols) k tau) (length-take-le n taus l)
        ∙ node_front

    long : length (zip (take n taus) (take n tols)) ≡ n
    long = length-zip (take n taus) (take n tols) ∙ rw (length-take-le n taus l, length-take-le n tols m) (omega arith)

    pub node_found : {j : ℕ} → Some j ≡ position (λ q. near_of q.0 tau q.1) (zip (take n taus) (take n tols)) → (j < n) × (node_of taus tols n tau ≡ j)
    node_found h = let f = found (λ q. near_of q.0 tau q.1) (zip (take n taus) (take n tols)) h in (omega (arith, f.0, long), sym node_is ∙ f.1)

    pub node_missed : None ≡ position (λ q. near_of q.0 tau q.1) (zip (take n taus) (take n tols)) → n ≤ node_of taus tols n tau
    node_missed h = let f = missed (λ q. near_of q.0 tau q.1) (zip (take n taus) (take n tols)) h in omega (arith, f, long, node_is)

-- ---- between two nodes

module _ (taus : List Float) (tau : Float) where
  pub later_found : {lo : ℕ} → Some lo ≡ position (λ t. lt tau t) (drop 1 taus) → (lo + 1 < length taus) × (beyond_of taus (length taus) tau ≡ lo + 1)
  unfolding beyond_of
  later_found h = let f = found (lt tau) (drop 1 taus) h in let d = length-drop 1 taus in let e = first_later (lt tau) nan taus in (omega (arith, f.0, d), e ∙ ap suc f.1 ∙ omega arith)

  pub later_missed : None ≡ position (λ t. lt tau t) (drop 1 taus) → length taus ≤ beyond_of taus (length taus) tau
  unfolding beyond_of
  later_missed h = let f = missed (lt tau) (drop 1 taus) h in let d = length-drop 1 taus in let e = first_later (lt tau) nan taus in omega (arith, f, d, e)

-- ---- a segment's positions are those of an array

abbrev InArray : Bracket → Type 0
InArray Short = Unit {0}
InArray (Segment lo hi x) = (lo < 32) × (hi < 32)

abbrev OkIn : Result Bracket ℕ → Type 0
OkIn (Ok b) = InArray b
OkIn (Err n) = Unit {0}

short_in : (policy : ShortExpiryPolicy) → OkIn (short_of policy)
short_in Reject = tt
short_in ConstantVol = tt

on_node_in : (j : ℕ) → j < 32 → InArray (on_node j)
unfolding on_node
on_node_in j h = cond_test InArray (eqb j 0) (λ _. (omega arith, omega arith)) (λ _. (omega arith, h))

module _ (taus tols : List Float) (n : ℕ) (policy : ShortExpiryPolicy) (k tau : Float) where
  lookup_in : n ≤ 32 → OkIn (lookup_of taus tols n policy tau)
  unfolding lookup_of inside_of
  lookup_in l =
      cond_test OkIn (ltb (node_of taus tols n tau) n) (λ e. let m = ltb-true (node_of taus tols n tau) n e in on_node_in _ (omega arith))
      (λ _. cond_test OkIn (lt tau (at taus 0)) (λ _. short_in policy)
      (λ _. cond_test OkIn (ltb (beyond_of taus n tau) n) (λ e. let m = ltb-true (beyond_of taus n tau) n e in (omega arith, omega arith)) (λ _. tt)))

  bracket_in_array : OkIn (bracket_of taus tols n policy k tau)
  unfolding bracket_of
  bracket_in_array =
      cond_test OkIn (ltb 32 n) (λ _. tt)
      (λ e. cond_test OkIn (eqb (point_number k tau) 0) (λ _. lookup_in (ltb-false 32 n e)) (λ _. tt))

  pub places : {b : Bracket} {lo hi : ℕ} {x : Float} → Ok b ≡ bracket_of taus tols n policy k tau → b ≡ Segment lo hi x → (lo < 32) × (hi < 32)
  places e i = subst OkIn (sym e ∙ ap Ok i) bracket_in_array
