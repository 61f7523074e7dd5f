-- The weights of a fit that passes the entry checks: sorted they rise, and scaled each lies in (0, 1] and one of them is 1.
use mathlib.Core.Path.{◌≡◌, sym, subst}
use mathlib.Core.Bool.{true, ◌&&◌}
use mathlib.Core.List.{List}
use Prim.Native.Nat.{ℕ, ◌<◌}
use native.Mathlib.Omega.{arith}
use lib.Dec.{T}
use lib.ListN.{length}
use lib.Ieee.{Float, le}
use Rattle.laws.specs.Floats.{+0, at, finite, positive}
use Rattle.laws.proofs.Choices.{both, passed_one}
use Rattle.laws.proofs.Floats.{finite_no_nan}
use Rattle.weights.specs.Weights.{sort_of, scaled_of}
use Rattle.weights.proofs.Sorted.{Number, each_at, Rising, rising_sort}
use Rattle.weights.proofs.Shares.{Shares, shares}
use Rattle.records.specs.declared.FitConfig.{FitConfig}
use Rattle.entry.specs.Entry.{lengths_hold, columns_pass, checks_number, entry_number}
use Rattle.records.specs.Settings.{sizes_hold}
use Rattle.entry.proofs.Known.{passed, entered}
use Rattle.entry.proofs.Conditions.{observations_pass}

module _ (tau : Float) (c : FitConfig) (ks ws weights : List Float) (room slots : ℕ) (e : entry_number tau c ks ws weights room slots ≡ 0) where
  pub all_pass : checks_number tau c ks ws weights room slots ≡ 0 → columns_pass ks ws weights ≡ true
  unfolding checks_number
  all_pass h =
      let p = passed_one (lengths_hold ks ws weights room slots) 12 _ (λ e. omega arith) h in
      let q = passed_one (sizes_hold (length ks) c) 11 _ (λ e. omega arith) p.1 in
      (passed_one (columns_pass ks ws weights) 10 _ (λ e. omega arith) q.1).0

  weight_number : (i : ℕ) → i < length weights → Number (at weights i)
  weight_number i l =
      let k = (entered tau c ks ws weights room slots e).0 in
      let s = (passed tau c ks ws weights room slots k).sized in
      let g = observations_pass ks ws weights (all_pass k) i (omega (arith, l, s.weights_long)) in
      let t = (both (finite (at ks i) && finite (at ws i) && le +0 (at ws i)) (positive (at weights i)) g).1 in
      finite_no_nan (at weights i) (both (finite (at weights i)) _ t).0

  pub fit_rising : Rising (sort_of weights)
  fit_rising = rising_sort weights (each_at Number weights weight_number)

  pub fit_shares : Shares (scaled_of c.max_weight_ratio weights)
  fit_shares =
      let k = entered tau c ks ws weights room slots e in
      let s = (passed tau c ks ws weights room slots k.0).sized in
      shares c.max_weight_ratio weights (omega (arith, s.least, s.weights_long)) (subst T (sym k.1) tt)
