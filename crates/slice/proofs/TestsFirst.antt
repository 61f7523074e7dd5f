-- A slice handed to `minimum`, `lee_slope` or `eval` meets its own tests first: where one fails, all three refuse with that test's number, one of 21 to 28, whatever k is. Assumes nothing.
use mathlib.Core.Path.{◌≡◌, refl, sym}
use mathlib.Core.Bool.{◌&&◌}
use mathlib.Core.Logic.{◌⊎◌, inl, inr, ⊎_elim}
use Prim.Native.Nat.{ℕ, ◌≤◌}
use native.Mathlib.Omega.{arith}
use lib.Dec.{eqb}
use Rattle.std.specs.Prelude.{Err}
use lib.Ieee.{Float, lt, le}
use Rattle.laws.specs.Floats.{+0, one, abs_of, finite, positive}
use Rattle.laws.proofs.Choices.{cond_ind, number_no}
use Rattle.slice.specs.declared.SviSlice.{SviSlice}
use Rattle.slice.specs.Slice.{range_number, three_finite, lowest_of, lee_of, lee_bound, domain_number, number_of, level_if_good, minimum_of, lee_slope_of, eval_of}

module _ (s : SviSlice) where
  abbrev OneOf : ℕ → Type 0
  OneOf n = (n ≡ 0) ⊎ ((21 ≤ n) × (n ≤ 28))

  one_of : (n : ℕ) → 21 ≤ n → n ≤ 28 → OneOf n
  one_of n l h = inr (l, h)

  domain_number_lem : OneOf (domain_number s)
  unfolding domain_number
  domain_number_lem =
      cond_ind OneOf (le s.tau +0) (one_of 23 (omega arith) (omega arith))
      (cond_ind OneOf (lt s.b +0) (one_of 24 (omega arith) (omega arith))
      (cond_ind OneOf (lt one (abs_of s.rho)) (one_of 25 (omega arith) (omega arith))
      (cond_ind OneOf (le s.sigma +0) (one_of 26 (omega arith) (omega arith))
      (cond_ind OneOf (lt lee_bound (lee_of s)) (one_of 27 (omega arith) (omega arith))
      (cond_ind OneOf (positive (lowest_of s)) (inl refl) (one_of 28 (omega arith) (omega arith)))))))

  range_number_lem : OneOf (range_number s.k_range)
  unfolding range_number
  range_number_lem = cond_ind OneOf ((finite s.k_range.lo && finite s.k_range.hi) && le s.k_range.lo s.k_range.hi) (inl refl) (one_of 21 (omega arith) (omega arith))

  number : OneOf (number_of s)
  unfolding number_of
  number =
      cond_ind OneOf (eqb (range_number s.k_range) 0)
      (cond_ind OneOf (three_finite s.tau s.a s.b && three_finite s.rho s.m s.sigma) domain_number_lem (one_of 22 (omega arith) (omega arith)))
      range_number_lem

  module _ (bad : number_of s ≡ 0 → ⊥) where
    pub number_21_to_28 : (21 ≤ number_of s) × (number_of s ≤ 28)
    number_21_to_28 = ⊎_elim (λ e. absurd (bad e)) (λ h. h) number

    pub minimum_refused : minimum_of s ≡ Err (number_of s)
    unfolding minimum_of level_if_good
    minimum_refused = sym (number_no _ Err refl bad)

    pub lee_slope_refused : lee_slope_of s ≡ Err (number_of s)
    unfolding lee_slope_of level_if_good
    lee_slope_refused = sym (number_no _ Err refl bad)

    pub eval_refused : (k : Float) → eval_of s k ≡ Err (number_of s)
    unfolding eval_of
    eval_refused k = sym (number_no _ Err refl bad)
