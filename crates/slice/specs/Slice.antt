-- What the functions of a slice answer (svi.rs: `KRange`, `SviSlice`), on every input. Every operation is rounded once, in the order written. Definitions only.
-- docs/METHOD.md, 'The slice'.
use Rattle.std.specs.Prelude.{Bool, ◌&&◌, cond, ℕ, Float, Result, Ok, Err}
use Rattle.std.specs.Float.Ieee.{lt, le}
use Rattle.laws.specs.Choice.{unless, refusing}
use Rattle.laws.specs.Floats.{◌+f◌, ◌-f◌, ◌*f◌, ◌/f◌, +0, one, two, abs_of, finite, positive, max_of}
use Rattle.roots.specs.Root.{root_of}
use Rattle.roots.specs.Hypot.{hypot_of}
use Rattle.slice.specs.declared.KRange.{KRange}
use Rattle.slice.specs.declared.SviSlice.{SviSlice}
use Rattle.slice.specs.declared.Values.{Values}
use Rattle.slice.specs.declared.Wing.{Wing}

-- ---- the k range

-- `contains`: k is inside the range, ends included
abbrev pub holds_k : KRange → Float → Bool
holds_k r k = le r.lo k && le k r.hi

-- 21 unless both ends are finite and lo <= hi; 0 for a range that passes
unfoldable pub range_number : KRange → ℕ
range_number r = unless ((finite r.lo && finite r.hi) && le r.lo r.hi) 21 0

-- `KRange::new`
unfoldable pub ranged_of : Float → Float → Result KRange ℕ
ranged_of lo hi =
    let r : KRange = record { lo = lo; hi = hi } in
    refusing (range_number r) Err (Ok r)

-- ---- the tests

-- three numbers, all finite
abbrev pub three_finite : Float → Float → Float → Bool
three_finite x y z = (finite x && finite y) && finite z

-- the smallest total variance, a + b sigma sqrt(1 - rho^2)
unfoldable pub lowest_of : SviSlice → Float
lowest_of s = s.a +f s.b *f s.sigma *f root_of (max_of (one -f s.rho *f s.rho) +0)

-- the slope of the steeper wing, b (1 + |rho|)
unfoldable pub lee_of : SviSlice → Float
lee_of s = s.b *f (one +f abs_of s.rho)

-- `LEE_SLOPE_BOUND`
abbrev pub lee_bound : Float
lee_bound = two

-- the number of the first of the last six tests that fails, or 0
unfoldable pub domain_number : SviSlice → ℕ
domain_number s =
    cond (le s.tau +0) 23
    (cond (lt s.b +0) 24
    (cond (lt one (abs_of s.rho)) 25
    (cond (le s.sigma +0) 26
    (cond (lt lee_bound (lee_of s)) 27
    (unless (positive (lowest_of s)) 28 0)))))

-- 21, then the seven tests of `SviSlice::new` in order; 0 for a slice that passes
unfoldable pub number_of : SviSlice → ℕ
number_of s =
    refusing (range_number s.k_range) (λ n. n)
    (unless (three_finite s.tau s.a s.b && three_finite s.rho s.m s.sigma) 22 (domain_number s))

-- `SviSlice::new`; a range that fails is 21 here too
unfoldable pub made_of : Float → Float → Float → Float → Float → Float → KRange → Result SviSlice ℕ
made_of tau a b rho m sigma range =
    let s : SviSlice = record { tau = tau; a = a; b = b; rho = rho; m = m; sigma = sigma; k_range = range } in
    refusing (number_of s) Err (Ok s)

-- ---- evaluation

-- rho and x of opposite signs: rho x + r and rho + u, rationalised
unfoldable pub across_of : Float → Float → Float → Float → Float → Wing
across_of rho sigma x u v =
    let oneMinusRho2 = (one -f rho) *f (one +f rho) in
    record {
      level = (x *f u *f oneMinusRho2 +f sigma *f v) /f (one -f rho *f u);
      slope = (v *f v -f oneMinusRho2) /f (rho -f u);
    }

-- otherwise: the sums as they stand
unfoldable pub along_of : Float → Float → Float → Float → Wing
along_of rho x r u = record { level = rho *f x +f r; slope = rho +f u }

-- the two formulas, chosen by rho x < 0
unfoldable pub wing_of : SviSlice → Float → Float → Wing
wing_of s x r =
    let u = x /f r in
    let v = s.sigma /f r in
    cond (lt (s.rho *f x) +0) (across_of s.rho s.sigma x u v) (along_of s.rho x r u)

-- w, w_k and w_kk at x = k - m, with r the hypotenuse of x and sigma
unfoldable pub values_at : SviSlice → Float → Float → Values
values_at s x r =
    let v = s.sigma /f r in
    record {
      w = s.a +f s.b *f (wing_of s x r).level;
      w_k = s.b *f (wing_of s x r).slope;
      w_kk = s.b /f r *f v *f v;
    }

-- w, w_k and w_kk at k
unfoldable pub values_of : SviSlice → Float → Values
values_of s k = values_at s (k -f s.m) (hypot_of (k -f s.m) s.sigma)

-- 30, a result that is not finite; 31, no curvature where b > 0
unfoldable pub judged_of : Float → Values → Result Values ℕ
judged_of b v =
    unless (three_finite v.w v.w_k v.w_kk) (Err 30)
    (cond (lt +0 b && le v.w_kk +0) (Err 31) (Ok v))

-- of a slice that has passed its tests: 29, k; then as judged
unfoldable pub eval_raw : SviSlice → Float → Result Values ℕ
eval_raw s k = unless (finite k) (Err 29) (judged_of s.b (values_of s k))

-- ---- the same of a slice that a caller may have written: 21 to 28 first

unfoldable pub level_if_good : SviSlice → Float → Result Float ℕ
level_if_good s v = refusing (number_of s) Err (Ok v)

-- `minimum`
unfoldable pub minimum_of : SviSlice → Result Float ℕ
minimum_of s = level_if_good s (lowest_of s)

-- `lee_slope`
unfoldable pub lee_slope_of : SviSlice → Result Float ℕ
lee_slope_of s = level_if_good s (lee_of s)

-- `eval`
unfoldable pub eval_of : SviSlice → Float → Result Values ℕ
eval_of s k = refusing (number_of s) Err (eval_raw s k)

-- ---- where there is no slice

-- a record of zeros
abbrev pub no_slice : SviSlice
no_slice = record { tau = +0; a = +0; b = +0; rho = +0; m = +0; sigma = +0; k_range = record { lo = +0; hi = +0 } }
