-- The numbers that the steps of a lookup refuse with: a run at most 33, a point at most 35, an evaluation at most 31, a total variance 38 or 39. So 36 and 37 are the bracket's alone, and the region and the total variance hand them on. Assumes nothing.
use mathlib.Core.Path.{◌≡◌, refl, sym, ap, subst, ◌∙◌}
use mathlib.Core.Bool.{Bool, true, false, ◌&&◌, cond}
use mathlib.Core.List.{List}
use mathlib.Core.Logic.{◌⊎◌, inl, inr, ⊎_elim}
use Prim.Native.Nat.{ℕ, zero, suc, ◌≤◌}
use native.Mathlib.Omega.{arith}
use lib.Dec.{eqb, ltb}
use lib.Ieee.{Float, lt, le}
use Rattle.laws.specs.Choice.{refusing}
use Rattle.laws.specs.Floats.{+0, finite, positive}
use Rattle.laws.proofs.Choices.{cond_ind}
use Rattle.laws.proofs.Loops.{for_keeps}
use Rattle.slice.specs.declared.SviSlice.{SviSlice}
use Rattle.slice.specs.declared.Values.{Values}
use Rattle.slice.specs.Slice.{three_finite, values_of, judged_of, eval_raw, number_of}
use Rattle.slice.proofs.TestsFirst.{number_21_to_28}
use Rattle.point.specs.declared.TotalVariance.{TotalVariance}
use Rattle.point.specs.Point.{point_number, total_number, total_of}
use Rattle.surface.specs.declared.types.Run.{Run}
use Rattle.surface.specs.declared.types.Bracket.{Bracket}
use Rattle.surface.specs.declared.types.Bracket.TheVariants.{Segment, Short}
use Rattle.surface.specs.Runs.{slice_at, taus_of, bad_turn, first_bad, rises_of, check_run}
use Rattle.surface.specs.Surface.{region_in, mixed_of, short_scaled, blend_of, short_in, segment_of, short_from, variance_in}
use Rattle.std.specs.Prelude.{Result, Ok, Err}

-- where a number may refuse, an answer is that refusal or the rest's
pub either : {A : Type 0} (number : ℕ) (refusal : ℕ → A) (rest x : A) → refusing number refusal rest ≡ x → (refusal number ≡ x) ⊎ (rest ≡ x)
either number refusal rest x = go (eqb number 0)
  where
    go : (b : Bool) → cond b rest (refusal number) ≡ x → (refusal number ≡ x) ⊎ (rest ≡ x)
    go true e = inr e
    go false e = inl e

-- ---- a run and a point

slice_number : (s : SviSlice) → number_of s ≤ 28
slice_number s = go (number_of s) refl
  where
    go : (m : ℕ) → number_of s ≡ m → m ≤ 28
    go zero e = omega arith
    go (suc m) e = subst (λ (n : ℕ). n ≤ 28) e (number_21_to_28 s (λ z. let w : suc m ≡ 0 = sym e ∙ z in omega (arith, w))).1

bad_number : (recs : List SviSlice) (n : ℕ) → first_bad recs n ≤ 28
unfolding first_bad
bad_number recs n = for_keeps (λ (m : ℕ). m ≤ 28) (bad_turn recs) n (λ i l m p. cond_ind (λ (m : ℕ). m ≤ 28) (eqb m 0) (slice_number (slice_at recs i)) p) 0 (omega arith)

pub run_number : (run : Run) → check_run run ≤ 33
unfolding check_run
run_number run =
    cond_ind Few (ltb 32 run.count) (omega arith)
    (cond_ind Few (eqb (first_bad run.recs run.count) 0)
    (cond_ind Few (ltb run.count 2) (omega arith)
    (cond_ind Few (rises_of (taus_of run.recs) run.count) (omega arith) (omega arith)))
    (let l = bad_number run.recs run.count in omega (arith, l)))
  where
    Few : ℕ → Type 0
    Few n = n ≤ 33

pub point_number_lem : (k tau : Float) → point_number k tau ≤ 35
unfolding point_number
point_number_lem k tau = cond_ind Few (finite k) (cond_ind Few (positive tau) (omega arith) (omega arith)) (omega arith)
  where
    Few : ℕ → Type 0
    Few n = n ≤ 35

-- ---- an evaluation, a total variance

eval_number : (s : SviSlice) (k : Float) (n : ℕ) → eval_raw s k ≡ Err n → n ≤ 31
unfolding eval_raw judged_of
eval_number s k n =
    cond_ind Few (finite k)
    (cond_ind Few (three_finite (values_of s k).w (values_of s k).w_k (values_of s k).w_kk)
    (cond_ind Few (lt +0 s.b && le (values_of s k).w_kk +0) (λ e. let z : 31 ≡ n = cc in omega (arith, z)) (λ e. let z : ◌≡◌ {A = ℕ} 0 1 = cc in absurd (omega arith)))
    (λ e. let z : 30 ≡ n = cc in omega (arith, z)))
    (λ e. let z : 29 ≡ n = cc in omega (arith, z))
  where
    Few : Result Values ℕ → Type 0
    Few r = r ≡ Err n → n ≤ 31

-- those of an evaluation, and those of a total variance
abbrev pub Valued : ℕ → Type 0
Valued n = (n ≤ 31) ⊎ ((38 ≤ n) × (n ≤ 39))

own : (v : TotalVariance) → Valued (total_number v)
unfolding total_number
own v =
    cond_ind Valued (positive v.w)
    (cond_ind Valued ((finite v.w_k && finite v.w_kk) && finite v.w_tau) (inl (omega arith)) (inr (omega arith, omega arith)))
    (inr (omega arith, omega arith))

pub not_valued : (n : ℕ) → 32 ≤ n → n ≤ 37 → Valued n → ⊥
not_valued n l h v = ⊎_elim (λ (m : n ≤ 31). omega (arith, l, m)) (λ (p : (38 ≤ n) × (n ≤ 39)). let m = p.0 in omega (arith, h, m)) v

total_number_lem : (w wk wkk wtau : Float) (n : ℕ) → total_of w wk wkk wtau ≡ Err n → Valued n
unfolding total_of
total_number_lem w wk wkk wtau n e =
    ⊎_elim
    (λ (h : Err (total_number v) ≡ Err n). let z : total_number v ≡ n = cc in subst Valued z (own v))
    (λ (h : Ok v ≡ Err n). let z : ◌≡◌ {A = ℕ} 0 1 = cc in absurd (omega arith))
    (either (total_number v) Err (Ok v) (Err n) e)
  where
    v : TotalVariance
    v = record { w = w; w_k = wk; w_kk = wkk; w_tau = wtau }

blend_number : (l h : Result Values ℕ) (x gap : Float) (n : ℕ) → (l ≡ Err n → n ≤ 31) → (h ≡ Err n → n ≤ 31) → blend_of l h x gap ≡ Err n → Valued n
unfolding mixed_of
blend_number (Err m) h x gap n p q e = inl (p (let z : m ≡ n = cc in ap Err z))
blend_number (Ok l) (Err m) x gap n p q e = inl (q (let z : m ≡ n = cc in ap Err z))
blend_number (Ok l) (Ok h) x gap n p q e = total_number_lem _ _ _ _ n e

scaled_number : (r : Result Values ℕ) (tau first : Float) (n : ℕ) → (r ≡ Err n → n ≤ 31) → short_in r tau first ≡ Err n → Valued n
unfolding short_scaled
scaled_number (Err m) tau first n p e = inl (p (let z : m ≡ n = cc in ap Err z))
scaled_number (Ok v) tau first n p e = total_number_lem _ _ _ _ n e

-- ---- a node answers

-- ---- what is handed on

-- a region refuses where the bracket does, with its number
pub region_from : (recs : List SviSlice) (b : Result Bracket ℕ) (k : Float) (n : ℕ) → region_in recs b k ≡ Err n → b ≡ Err n
region_from recs (Ok b) k n e = let z : ◌≡◌ {A = ℕ} 0 1 = cc in absurd (omega arith)
region_from recs (Err m) k n e = let z : m ≡ n = cc in ap Err z

-- a total variance refuses where the bracket does, or with a number of its own
pub variance_from : (recs : List SviSlice) (b : Result Bracket ℕ) (k tau : Float) (n : ℕ) → variance_in recs b k tau ≡ Err n → (b ≡ Err n) ⊎ Valued n
unfolding segment_of short_from
variance_from recs (Ok (Segment lo hi x)) k tau n e = inr (blend_number (eval_raw (slice_at recs lo) k) (eval_raw (slice_at recs hi) k) x _ n (eval_number (slice_at recs lo) k n) (eval_number (slice_at recs hi) k n) e)
variance_from recs (Ok Short) k tau n e = inr (scaled_number (eval_raw (slice_at recs 0) k) tau _ n (eval_number (slice_at recs 0) k n) e)
variance_from recs (Err m) k tau n e = let z : m ≡ n = cc in inl (ap Err z)
