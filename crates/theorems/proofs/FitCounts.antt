-- The six counts of every answer: zero where an entry check refuses, and always within document 01's sizes.
use mathlib.Core.Path.{◌≡◌, refl, sym, ap, subst}
use mathlib.Core.Bool.{Bool, true, false}
use mathlib.Core.List.{List}
use Prim.Native.Nat.{ℕ}
use native.Mathlib.Omega.{arith}
use lib.Dec.{eqb}
use lib.Ieee.{Float}
use borrow.Author.Tests.{eqb-true, eqb-false}
use Rattle.records.specs.declared.Counts.{Counts}
use Rattle.search.specs.Search.{limit_of}
use Rattle.search.specs.Run.{fit_cell}
use Rattle.search.proofs.SearchCounts.{most_faces, most_updates, roomy}
use Rattle.search.proofs.FitCells.{fit_most, fit_few}
use Rattle.records.specs.declared.FitConfig.{FitConfig}
use Rattle.records.specs.declared.FitAnswer.{FitAnswer}
use Rattle.records.specs.Answer.{no_counts, refused_with}
use Rattle.records.specs.Settings.{defaults_of}
use Rattle.entry.specs.Entry.{entry_number}
use Rattle.calibrate.specs.Fit.{plan_of, scaled_for, limits_for, plan_for, search_for, fit_search, fit_of}
use Rattle.calibrate.specs.Searched.{SizedCounts, DefaultCounts}
use Rattle.entry.proofs.Known.{passed, entered}
use Rattle.calibrate.proofs.EachNumber.{early_answer}
use Rattle.theorems.proofs.SearchedAsDefined.{searched_as_defined}

module _ (tau : Float) (c : FitConfig) (ks ws weights : List Float) (room slots : ℕ) where
  -- an entry check that fails: no counts
  pub counts_none : (entry_number tau c ks ws weights room slots ≡ 0 → ⊥) → (fit_of tau c ks ws weights room slots).counts ≡ no_counts
  unfolding refused_with
  counts_none h = ap (λ (a : FitAnswer). a.counts) (early_answer tau c ks ws weights room slots h)

  -- what holds of no counts and of the search's holds of every answer's
  counts_ind : (P : Counts → Type 0) → P no_counts → (entry_number tau c ks ws weights room slots ≡ 0 → P (search_for c ks ws weights).counts) → P (fit_of tau c ks ws weights room slots).counts
  counts_ind P none late = go (eqb (entry_number tau c ks ws weights room slots) 0) refl
    where
      go : (t : Bool) → eqb (entry_number tau c ks ws weights room slots) 0 ≡ t → P (fit_of tau c ks ws weights room slots).counts
      go true e = let h = eqb-true _ _ e in subst P (sym (searched_as_defined tau c ks ws weights room slots h).counts) (late h)
      go false e = subst P (sym (counts_none (eqb-false _ _ e))) none

  pub fit_counts_lem : SizedCounts (fit_of tau c ks ws weights room slots).counts
  unfolding plan_of fit_search
  fit_counts_lem =
      counts_ind SizedCounts (record { passes = omega arith; cells = omega arith; faces = omega arith; updates = omega arith })
      (λ h.
      let z = (passed tau c ks ws weights room slots (entered tau c ks ws weights room slots h).0).sized in
      let r = roomy (fit_cell ks ws (scaled_for c weights) (limits_for c ws)) (fit_most ks ws (scaled_for c weights) (limits_for c ws)) (fit_few ks ws (scaled_for c weights) (limits_for c ws)) (plan_for c ks) z.grid z.refinements z.recentres (limit_of (plan_for c ks)) (omega arith) in
      record { passes = r.passes; cells = r.cells; faces = r.faces; updates = r.updates })

pub default_counts : (tau : Float) (ks ws weights : List Float) (room slots : ℕ) → DefaultCounts (fit_of tau defaults_of ks ws weights room slots).counts
unfolding plan_of fit_search
default_counts tau ks ws weights room slots =
    counts_ind tau defaults_of ks ws weights room slots DefaultCounts (record { passes = omega arith; cells = omega arith; faces = omega arith; updates = omega arith })
    (λ h.
    let s = (searched_as_defined tau defaults_of ks ws weights room slots h).search in
    let m = most_faces (fit_cell ks ws (scaled_for defaults_of weights) (limits_for defaults_of ws)) (plan_for defaults_of ks) (limit_of (plan_for defaults_of ks)) 64 (fit_most ks ws (scaled_for defaults_of weights) (limits_for defaults_of ws)) in
    let u = most_updates (fit_cell ks ws (scaled_for defaults_of weights) (limits_for defaults_of ws)) (plan_for defaults_of ks) (limit_of (plan_for defaults_of ks)) 3438 (fit_few ks ws (scaled_for defaults_of weights) (limits_for defaults_of ws)) in
    record { passes = s.passes; cells = omega (arith, s.passes, s.cells); faces = omega (arith, s.passes, s.cells, m); updates = omega (arith, s.passes, s.cells, u) })
