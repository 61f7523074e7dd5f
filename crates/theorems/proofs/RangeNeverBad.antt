-- The slice that a fit tries after the entry checks never has a bad k range: both ends are finite, and the lower is at most the upper. So no number of the fit stands for one.
use mathlib.Core.Path.{◌≡◌, refl, sym, ap, subst, ◌∙◌}
use mathlib.Core.Logic.{◌⊎◌, inl, inr, ⊎_elim}
use mathlib.Core.Bool.{Bool, true, false, not, ◌&&◌, ◌||◌, cond}
use mathlib.Core.List.{List}
use Prim.Native.Nat.{ℕ, ◌<◌}
use native.Mathlib.Omega.{arith}
use lib.Dec.{T}
use lib.ListN.{length}
use lib.Ieee.{Float, lt, le, ne, neg, is_nan}
use lib.Ieee.Bits.{is_true}
use Rattle.laws.specs.Floats.{◌/f◌, +0, one, at, finite, positive, min_of, max_of}
use Rattle.laws.proofs.Choices.{both}
use Rattle.laws.proofs.Floats.{nan_test, between_infinities, finite_no_nan}
use Rattle.laws.proofs.Loops.{for_ind}
use Rattle.laws.proofs.Order.{lt_le_trans, lt→le, le_self, le_trans}
use Rattle.slice.specs.declared.KRange.{KRange}
use Rattle.slice.specs.Slice.{range_number}
use Rattle.records.specs.declared.FitConfig.{FitConfig}
use Rattle.entry.specs.Entry.{range_of, entry_number}
use Rattle.calibrate.specs.End.{slice_of}
use Rattle.calibrate.specs.When.{tried}
use Rattle.entry.proofs.Known.{passed, entered}
use Rattle.entry.proofs.Conditions.{is_T, observations_pass}
use Rattle.entry.proofs.WeightsOfTheFit.{all_pass}

record Good (t : KRange) : Type 0 where
  lo : finite t.lo ≡ true
  hi : finite t.hi ≡ true
  rising : T (le t.lo t.hi)

-- a finite float is no NaN, which alone differs from itself
no_nan : (x : Float) → finite x ≡ true → ne x x ≡ false
no_nan x f = nan_test x ∙ go (is_nan x) (finite_no_nan x f)
  where
    go : (b : Bool) → T (not b) → b ≡ false
    go true h = absurd h
    go false h = refl

or_false : (a : Bool) → (a || false) ≡ a
or_false true = refl
or_false false = refl

min_is : (a b : Float) → finite a ≡ true → min_of a b ≡ cond (lt b a) b a
unfolding min_of
min_is a b f = ap (λ (t : Bool). cond (lt b a || t) b a) (no_nan a f) ∙ ap (λ (t : Bool). cond t b a) (or_false (lt b a))

max_is : (a b : Float) → finite a ≡ true → max_of a b ≡ cond (lt a b) b a
unfolding max_of
max_is a b f = ap (λ (t : Bool). cond (lt a b || t) b a) (no_nan a f) ∙ ap (λ (t : Bool). cond t b a) (or_false (lt a b))

abbrev start : KRange
start = record { lo = one /f +0; hi = neg (one /f +0) }

abbrev wider : KRange → Float → KRange
wider t k = record { lo = min_of t.lo k; hi = max_of t.hi k }

-- the first k is both ends
first_good : (k : Float) → finite k ≡ true → Good (wider start k)
unfolding min_of max_of
first_good k f =
    let b = both (lt k (one /f +0)) (lt (neg (one /f +0)) k) (between_infinities k ∙ f) in
    let low : min_of (one /f +0) k ≡ k = ap (λ (t : Bool). cond (t || ne (one /f +0) (one /f +0)) k (one /f +0)) b.0 in
    let high : max_of (neg (one /f +0)) k ≡ k = ap (λ (t : Bool). cond (t || ne (neg (one /f +0)) (neg (one /f +0))) k (neg (one /f +0))) b.1 in
    subst Good (λ i. record { lo = sym low i; hi = sym high i }) (record { lo = f; hi = f; rising = le_self k (finite_no_nan k f) })

-- and each other k widens the range
next_good : (t : KRange) (k : Float) → finite k ≡ true → Good t → Good (wider t k)
next_good t k f g =
    subst Good (λ i. record { lo = sym (min_is t.lo k g.lo) i; hi = sym (max_is t.hi k g.hi) i }) (go (lt k t.lo) (lt t.hi k) refl refl)
  where
    go : (x y : Bool) → lt k t.lo ≡ x → lt t.hi k ≡ y → Good (record { lo = cond x k t.lo; hi = cond y k t.hi })
    go true true d e = record { lo = f; hi = f; rising = le_self k (finite_no_nan k f) }
    go true false d e = record { lo = f; hi = g.hi; rising = lt→le k t.hi (lt_le_trans k t.lo t.hi (is_T d) g.rising) }
    go false true d e =
        record { lo = g.lo; hi = f; rising = le_trans t.lo t.hi k (finite_no_nan t.lo g.lo) (finite_no_nan k f) g.rising (lt→le t.hi k (is_T e)) }
    go false false d e = g

range_good : (ks : List Float) → 0 < length ks → ((i : ℕ) → i < length ks → finite (at ks i) ≡ true) → Good (range_of ks)
unfolding range_of
range_good ks l f =
    ⊎_elim (λ (h : (length ks ≡ 0) × (range_of ks ≡ start)). absurd (let e = h.0 in omega arith)) (λ h. h)
    (for_ind (λ i t. wider t (at ks i)) (λ (j : ℕ) (t : KRange). ((j ≡ 0) × (t ≡ start)) ⊎ Good t) (length ks)
    (λ j t m h.
    inr
    (⊎_elim (λ (h : (j ≡ 0) × (t ≡ start)). subst (λ (t : KRange). Good (wider t (at ks j))) (sym h.1) (first_good (at ks j) (f j m)))
    (λ g. next_good t (at ks j) (f j m) g) h)) start (inl (refl, refl)))

pub range_never_bad :
    (tau : Float) (c : FitConfig) (ks ws weights : List Float) (room slots : ℕ) → entry_number tau c ks ws weights room slots ≡ 0
    → range_number (tried tau c ks ws weights room slots).k_range ≡ 0
unfolding range_number slice_of
range_never_bad tau c ks ws weights room slots e =
    let k = (entered tau c ks ws weights room slots e).0 in
    let s = (passed tau c ks ws weights room slots k).sized in
    let g =
    range_good ks (omega (arith, s.least))
    (λ i l.
    (both (finite (at ks i)) (finite (at ws i)) (both (finite (at ks i) && finite (at ws i)) (le +0 (at ws i)) (both (finite (at ks i) && finite (at ws i) && le +0 (at ws i)) (positive (at weights i)) (observations_pass ks ws weights (all_pass tau c ks ws weights room slots e k) i l)).0).0).0) in
    rw (g.lo, g.hi, is_true (le (range_of ks).lo (range_of ks).hi) g.rising)
