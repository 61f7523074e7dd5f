-- The settings of a file are eleven 8-byte values in the order of `FitConfig`: read at their places, and as they were written. Assumes nothing.
use Prim.Native.Nat.{ℕ, ◌≤◌}
use mathlib.Core.Path.{◌≡◌, refl}
use mathlib.Core.List.{List, [], ◌∷◌}
use native.Mathlib.Omega.{arith}
use lib.ListN.{length, get_or}
use Rattle.laws.specs.Floats.{f64}
use Rattle.bits.specs.Bytes.{u64_at}
use Rattle.house.specs.declared.Quote.{Quote}
use Rattle.house.specs.File.{settings_at, config_of}
use Rattle.house.specs.Encode.{file_bytes, Wide}
use Rattle.house.proofs.ReadBack.{settings_same, settings_back}

-- the value of each setting is the word at its place, eight bytes behind that of the one before, the first behind the settings count
pub settings_at_their_places :
    (s : List ℕ)
    → config_of s 1
    ≡ record {
      grid = u64_at s 4;
      refinements = u64_at s 12;
      max_recentres = u64_at s 20;
      sigma_lo = f64 (u64_at s 28);
      sigma_hi = f64 (u64_at s 36);
      a_min = f64 (u64_at s 44);
      min_observations = u64_at s 52;
      max_rmse_vol = f64 (u64_at s 60);
      pivot_tolerance = f64 (u64_at s 68);
      feasibility_tolerance = f64 (u64_at s 76);
      max_weight_ratio = f64 (u64_at s 84);
    }
unfolding config_of settings_at
settings_at_their_places s = refl

-- a file with eleven words for its settings has them as its settings, in this order
pub settings_in_order :
    (grid refinements recentres lo hi a least rmse pivot slack ratio tau : ℕ) (qs : List Quote)
    → Wide (grid ∷ refinements ∷ recentres ∷ lo ∷ hi ∷ a ∷ least ∷ rmse ∷ pivot ∷ slack ∷ ratio ∷ []) → length qs ≤ 256
    → config_of (file_bytes 1 (grid ∷ refinements ∷ recentres ∷ lo ∷ hi ∷ a ∷ least ∷ rmse ∷ pivot ∷ slack ∷ ratio ∷ []) tau qs) 1
    ≡ record {
      grid = grid;
      refinements = refinements;
      max_recentres = recentres;
      sigma_lo = f64 lo;
      sigma_hi = f64 hi;
      a_min = f64 a;
      min_observations = least;
      max_rmse_vol = f64 rmse;
      pivot_tolerance = f64 pivot;
      feasibility_tolerance = f64 slack;
      max_weight_ratio = f64 ratio;
    }
unfolding config_of settings_at
settings_in_order grid refinements recentres lo hi a least rmse pivot slack ratio tau qs w l =
    let words : List ℕ = grid ∷ refinements ∷ recentres ∷ lo ∷ hi ∷ a ∷ least ∷ rmse ∷ pivot ∷ slack ∷ ratio ∷ [] in
    settings_same _ (λ i. get_or words i 0) (λ i h. settings_back 1 words tau qs (omega arith) refl l w i h)
