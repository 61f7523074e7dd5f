-- exp near zero is no NaN and not negative: the series stays from 0.38 to 1.6, and a correction that passed its limit is far smaller. Numbers here are in units of 2^-20. Assumes nothing.
use Rattle.std.proofs.Common.{ℕ, ◌-◌, ◌<◌, ◌≤◌, Bool, true, false, cond, T, sym, refl, subst, le_trans, arith, lit<, lit≤}
use lib.Ieee.{Float, neg, le, of_bits}
use lib.Ieee.Exact.{HasValue}
use Rattle.laws.specs.Floats.{◌+f◌, ◌*f◌, ◌/f◌, num, one}
use Rattle.laws.proofs.Loops.{for_keeps, turns_last}
use Rattle.laws.proofs.Ops.{num_value}
use Rattle.laws.proofs.Interval.{Iv, Least, Above, iv_add, iv_mul, iv_div, iv_between, iv_widen, least_value, above_sum}
use Rattle.laws.proofs.Signs.{Signed, above_signed, plus_signed}
use Rattle.exponent.specs.Steps.{c2m52, corrected_of}
use Rattle.exponent.specs.Exp.{horner_of, upper_of, series_of, lack_of, kernel_of}

one_iv : Iv one 1048576 1048576
unfolding of_bits
one_iv = lit≤ tt

one_value : HasValue one false 1 1
unfolding of_bits
one_value = (refl, refl)

limit_iv : Iv c2m52 1 1
unfolding of_bits
limit_iv = lit≤ tt

num_least : (k : ℕ) → 0 < k → k ≤ 18 → Least (num k) 1048576
num_least k h l = least_value (num k) false k 1 1048576 (lit< tt) (num_value k (le_trans l (lit≤ {m = 18} tt))) (omega arith)

-- x of size 0.3466 at most, e of size 1.6 at most
module _ (x : Float) (X : Iv x 363444 363444) where
  term_iv : (k : ℕ) (e : Float) → 0 < k → k ≤ 18 → Iv e 1677722 1677722 → Iv (x /f num k *f e) 581514 581514
  term_iv k e h l E =
      iv_mul (x /f num k) e 363445 1677722 581513 581514 (lit≤ tt) (lit≤ tt) (lit≤ tt)
      (iv_div x (num k) 363444 1048576 363444 363445 (lit< tt) (lit≤ tt) (lit≤ tt) (lit≤ tt) X (num_least k h l)) E

  step_iv : (k : ℕ) (e : Float) → 0 < k → k ≤ 18 → Iv e 1677722 1677722 → Iv (one +f x /f num k *f e) 1677722 1677722
  step_iv k e h l E = iv_add one (x /f num k *f e) 1048576 1048576 581514 581514 1677722 1677722 (lit≤ tt) (lit≤ tt) (lit≤ tt) (lit≤ tt) one_iv (term_iv k e h l E)

  turns_iv : (from n : ℕ) (start : Float) → n ≤ from → from ≤ 18 → Iv start 1677722 1677722 → Iv (horner_of x from n start) 1677722 1677722
  unfolding horner_of
  turns_iv from n start h l S =
      for_keeps (λ (e : Float). Iv e 1677722 1677722) (λ (j : ℕ) (e : Float). one +f x /f num (from - j) *f e) n (λ j k e E. step_iv (from - j) e (omega arith) (omega arith) E) start S

  upper_iv : Iv (upper_of x) 1677722 1677722
  unfolding upper_of
  upper_iv = turns_iv 18 14 one (lit≤ tt) (lit≤ tt) (step_one)
    where
      step_one : Iv one 1677722 1677722
      step_one = iv_widen one 1048576 1048576 1677722 1677722 (lit≤ tt) (lit≤ tt) one_iv

  series_iv : Iv (series_of x) 1677722 1677722
  unfolding series_of
  series_iv = turns_iv 4 4 (upper_of x) (lit≤ tt) (lit≤ tt) upper_iv

  -- the last turn adds to 1 what is below 0.56 in size
  series_above : Above (series_of x) 400000
  unfolding series_of horner_of
  series_above =
      subst (λ (z : Float). Above z 400000) (sym (turns_last (λ (j : ℕ) (e : Float). one +f x /f num (4 - j) *f e) 3 0 (upper_of x)))
      (above_sum one (x /f num 1 *f horner_of x 4 3 (upper_of x)) 1 581514 400000 one_value (lit≤ tt) (lit≤ tt) (term_iv 1 (horner_of x 4 3 (upper_of x)) (lit< tt) (lit≤ tt) (turns_iv 4 3 (upper_of x) (lit≤ tt) (lit≤ tt) upper_iv)))

  -- for any correction c
  corrected_signed : (c : Float) → Signed false (corrected_of (series_of x) c (series_of x *f c2m52))
  unfolding corrected_of
  corrected_signed c = go (le c g) (le (neg g) c) (iv_between c g 3 g_iv)
    where
      g : Float
      g = series_of x *f c2m52

      g_iv : Iv g 3 3
      g_iv = iv_mul (series_of x) c2m52 1677722 1 2 3 (lit≤ tt) (lit≤ tt) (lit≤ tt) series_iv limit_iv

      go : (p q : Bool) → (T p → T q → Iv c 3 3) → Signed false (cond p (cond q (series_of x +f c) (series_of x)) (series_of x))
      go false q f = above_signed (series_of x) 400000 series_above
      go true false f = above_signed (series_of x) 400000 series_above
      go true true f = plus_signed (series_of x) c 400000 3 (lit≤ tt) series_above (f tt tt)

  pub kernel_signed : (y : Float) → Signed false (kernel_of x y)
  unfolding kernel_of
  kernel_signed y = corrected_signed (lack_of x y (upper_of x) (series_of x))
