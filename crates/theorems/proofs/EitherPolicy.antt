-- What the policy changes: where Reject refuses with 36, ConstantVol answers with the first slice, scaled; everywhere else both answer alike. Of every surface and point, valid or not. Assumes nothing.
use mathlib.Core.Path.{◌≡◌, refl, ap}
use mathlib.Core.Bool.{Bool, true, false, cond}
use mathlib.Core.List.{List}
use mathlib.Core.Logic.{◌⊎◌, inl, inr, ⊎_elim}
use Prim.Native.Nat.{ℕ}
use lib.Dec.{eqb, ltb}
use lib.Ieee.{Float, lt}
use Rattle.laws.specs.Floats.{at}
use Rattle.point.specs.Point.{point_number}
use Rattle.surface.specs.declared.types.Run.{Run}
use Rattle.surface.specs.declared.types.ShortExpiryPolicy.TheVariants.{Reject, ConstantVol}
use Rattle.surface.specs.declared.types.Bracket.{Bracket}
use Rattle.surface.specs.declared.types.Bracket.TheVariants.{Short}
use Rattle.surface.specs.declared.types.Region.TheVariants.{Extrapolated}
use Rattle.surface.specs.Runs.{slice_at, taus_of, check_run}
use Rattle.surface.specs.Lookup.{node_of, beyond_of, on_node, short_of, inside_of, lookup_of, bracket_of}
use Rattle.surface.specs.Surface.{region_in, short_from, variance_in, variance_at, tols_of, bracket_in, bracket_run, region_run, total_run}
use Rattle.std.specs.Prelude.{Result, Ok, Err}

module _ {A : Type 0} (refused answered : A) where
  -- two answers: the first is refused where the second is given, or they are one
  abbrev Parted : A → A → Type 0
  Parted x y = ((x ≡ refused) × (y ≡ answered)) ⊎ (y ≡ x)

  -- behind a test that both share
  shared : (b : Bool) (r x y : A) → Parted x y → Parted (cond b x r) (cond b y r)
  shared true r x y p = p
  shared false r x y p = inr refl

mapped : {A B : Type 0} (f : A → B) (r a x y : A) → Parted r a x y → Parted (f r) (f a) (f x) (f y)
mapped f r a x y p = ⊎_elim (λ (e : (x ≡ r) × (y ≡ a)). inl (ap f e.0, ap f e.1)) (λ (e : y ≡ x). inr (ap f e)) p

lookup_either : (taus tols : List Float) (n : ℕ) (tau : Float) → Parted (Err 36) (Ok Short) (lookup_of taus tols n Reject tau) (lookup_of taus tols n ConstantVol tau)
unfolding lookup_of
lookup_either taus tols n tau = go (ltb (node_of taus tols n tau) n) (lt tau (at taus 0)) (Ok (on_node (node_of taus tols n tau))) (inside_of taus n tau (beyond_of taus n tau))
  where
    go : (a b : Bool) (on rest : Result Bracket ℕ) → Parted (Err 36) (Ok Short) (cond a on (cond b (short_of Reject) rest)) (cond a on (cond b (short_of ConstantVol) rest))
    go true b on rest = inr refl
    go false true on rest = inl (refl, refl)
    go false false on rest = inr refl

module _ (run : Run) (k tau : Float) where
  in_either : Parted (Err 36) (Ok Short) (bracket_in run Reject k tau) (bracket_in run ConstantVol k tau)
  unfolding bracket_in bracket_of
  in_either = go (ltb 32 run.count) (shared (Err 36) (Ok Short) (eqb (point_number k tau) 0) (Err (point_number k tau)) _ _ (lookup_either (taus_of run.recs) (tols_of run) run.count tau))
    where
      go : (b : Bool) {x y : Result Bracket ℕ} → Parted (Err 36) (Ok Short) x y → Parted (Err 36) (Ok Short) (cond b (Err 11) x) (cond b (Err 11) y)
      go true p = inr refl
      go false p = p

  pub bracket_either : ((bracket_run run Reject k tau ≡ Err 36) × (bracket_run run ConstantVol k tau ≡ Ok Short)) ⊎ (bracket_run run ConstantVol k tau ≡ bracket_run run Reject k tau)
  unfolding bracket_run
  bracket_either = shared (Err 36) (Ok Short) (eqb (check_run run) 0) (Err (check_run run)) _ _ in_either

  pub region_either : ((region_run run Reject k tau ≡ Err 36) × (region_run run ConstantVol k tau ≡ Ok Extrapolated)) ⊎ (region_run run ConstantVol k tau ≡ region_run run Reject k tau)
  unfolding region_run
  region_either = shared (Err 36) (Ok Extrapolated) (eqb (check_run run) 0) (Err (check_run run)) _ _ (mapped (λ (b : Result Bracket ℕ). region_in run.recs b k) (Err 36) (Ok Short) _ _ in_either)

  pub total_either : ((total_run run Reject k tau ≡ Err 36) × (total_run run ConstantVol k tau ≡ short_from (slice_at run.recs 0) k tau)) ⊎ (total_run run ConstantVol k tau ≡ total_run run Reject k tau)
  unfolding total_run variance_at bracket_in
  total_either = shared (Err 36) (short_from (slice_at run.recs 0) k tau) (eqb (check_run run) 0) (Err (check_run run)) _ _ (mapped (λ (b : Result Bracket ℕ). variance_in run.recs b k tau) (Err 36) (Ok Short) _ _ in_either)
