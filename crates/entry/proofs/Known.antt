-- What is known of an input that passed the entry checks. Assumes nothing.
use mathlib.Core.Path.{◌≡◌, refl, sym, ap, ◌∙◌}
use mathlib.Core.Bool.{Bool, true, false, ◌&&◌, cond}
use mathlib.Core.List.{List}
use Prim.Native.Nat.{ℕ, ◌*◌, ◌≤◌}
use native.Mathlib.Omega.{arith}
use lib.Dec.{eqb, leb}
use lib.ListN.{length, take, length-take}
use lib.Ieee.{Float, lt}
use borrow.Author.Tests.{eq-eqb, ne_eqb, eqb-true, leb-true}
use Rattle.laws.specs.Floats.{positive}
use Rattle.laws.proofs.Choices.{both, passed_one, if_true, if_false, false_true}
use Rattle.weights.specs.declared.Weights.{Weights}
use Rattle.weights.specs.Weights.{cap_of, scaled_of, all_good, weighed, weights_of, scaled_in}
use Rattle.weights.proofs.Places.{weights_are, take_scaled, scaled_length}
use Rattle.records.specs.declared.FitConfig.{FitConfig}
use Rattle.records.specs.Settings.{settings_hold, sizes_hold}
use Rattle.entry.specs.Entry.{lengths_hold, columns_pass, checks_number, entry_number}
use Rattle.entry.specs.Sized.{Sized}

-- ---- each check, from its test

pub record Lengths (ks ws weights : List Float) (room slots : ℕ) : Type 0 where
  pub ws_long : length ws ≡ length ks
  pub weights_long : length weights ≡ length ks
  pub rooms : length ks * 4 ≤ room
  pub places : length ks ≤ slots

pub lengths_are : (ks ws weights : List Float) (room slots : ℕ) → lengths_hold ks ws weights room slots ≡ true → Lengths ks ws weights room slots
unfolding lengths_hold
lengths_are ks ws weights room slots h =
    let n = length ks in
    let p = both (eqb n (length ws) && eqb n (length weights) && leb (n * 4) room) (leb n slots) h in
    let q = both (eqb n (length ws) && eqb n (length weights)) (leb (n * 4) room) p.0 in
    let r = both (eqb n (length ws)) (eqb n (length weights)) q.0 in
    record { ws_long = sym (eqb-true _ _ r.0); weights_long = sym (eqb-true _ _ r.1); rooms = leb-true _ _ q.1; places = leb-true _ _ p.1 }

record Sizes (n : ℕ) (c : FitConfig) : Type 0 where
  most : n ≤ 256
  grid : c.grid ≤ 255
  refinements : c.refinements ≤ 1000
  recentres : c.max_recentres ≤ 1000

sizes_are : (n : ℕ) (c : FitConfig) → sizes_hold n c ≡ true → Sizes n c
unfolding sizes_hold
sizes_are n c h =
    let p = both (leb n 256 && leb c.grid 255 && leb c.refinements 1000) (leb c.max_recentres 1000) h in
    let q = both (leb n 256 && leb c.grid 255) (leb c.refinements 1000) p.0 in
    let r = both (leb n 256) (leb c.grid 255) q.0 in
    record { most = leb-true _ _ r.0; grid = leb-true _ _ r.1; refinements = leb-true _ _ q.1; recentres = leb-true _ _ p.1 }

least_setting : (c : FitConfig) → settings_hold c ≡ true → 5 ≤ c.min_observations
unfolding settings_hold
least_setting c h =
    let a = leb 5 c.grid in
    let b = leb 5 c.min_observations in
    let d = positive c.sigma_lo && positive c.sigma_hi in
    let e = positive c.a_min && positive c.max_rmse_vol in
    let f = positive c.pivot_tolerance && positive c.feasibility_tolerance && positive c.max_weight_ratio in
    leb-true _ _ (both a b (both (a && b) d (both (a && b && d) e (both (a && b && d && e) f (both (a && b && d && e && f) (lt c.sigma_lo c.sigma_hi) h).0).0).0).0).1

-- ---- all of them

pub record Passed (c : FitConfig) (ks ws weights : List Float) (room slots : ℕ) : Type 0 where
  pub sized : Sized c ks ws weights
  pub rooms : length ks * 4 ≤ room
  pub places : length ks ≤ slots

pub passed : (tau : Float) (c : FitConfig) (ks ws weights : List Float) (room slots : ℕ) → checks_number tau c ks ws weights room slots ≡ 0 → Passed c ks ws weights room slots
unfolding checks_number
passed tau c ks ws weights room slots h =
    let p = passed_one (lengths_hold ks ws weights room slots) 12 _ (λ e. omega arith) h in
    let q = passed_one (sizes_hold (length ks) c) 11 _ (λ e. omega arith) p.1 in
    let r = passed_one (columns_pass ks ws weights) 10 _ (λ e. omega arith) q.1 in
    let s = passed_one (settings_hold c) 1 _ (λ e. omega arith) r.1 in
    let t = passed_one (positive tau) 2 _ (λ e. omega arith) s.1 in
    let u = passed_one (leb c.min_observations (length ks)) 3 _ (λ e. omega arith) t.1 in
    let l = lengths_are ks ws weights room slots p.0 in
    let z = sizes_are (length ks) c q.0 in
    let m = least_setting c s.0 in
    let n = leb-true c.min_observations (length ks) u.0 in
    record {
      sized =
          record {
            least = omega (arith, m, n);
            most = z.most;
            ws_long = l.ws_long;
            weights_long = l.weights_long;
            grid = z.grid;
            refinements = z.refinements;
            recentres = z.recentres;
          };
      rooms = l.rooms;
      places = l.places;
    }

module _ (tau : Float) (c : FitConfig) (ks ws weights : List Float) (room slots : ℕ) where
  abbrev checked : ℕ
  checked = checks_number tau c ks ws weights room slots

  abbrev weighs : Bool
  weighs = all_good (scaled_of c.max_weight_ratio weights)

  -- the number of the entry checks, from the first ones and the weights
  pub entry_first : (checked ≡ 0 → ⊥) → checked ≡ entry_number tau c ks ws weights room slots
  unfolding entry_number
  entry_first h = if_false _ (ne_eqb checked 0 h) refl

  pub entry_five : checked ≡ 0 → weighs ≡ false → 5 ≡ entry_number tau c ks ws weights room slots
  unfolding entry_number
  entry_five h w = if_true _ (eq-eqb checked 0 h) (if_false _ w refl)

  pub entry_none : checked ≡ 0 → weighs ≡ true → 0 ≡ entry_number tau c ks ws weights room slots
  unfolding entry_number
  entry_none h w = if_true _ (eq-eqb checked 0 h) (if_true _ w refl)

  -- and backwards
  pub entered : entry_number tau c ks ws weights room slots ≡ 0 → (checked ≡ 0) × (weighs ≡ true)
  unfolding entry_number
  entered h = go (eqb checked 0) refl h
    where
      go : (t : Bool) → eqb checked 0 ≡ t → cond t (cond weighs 0 5) checked ≡ 0 → (checked ≡ 0) × (weighs ≡ true)
      go true e k = (eqb-true checked 0 e, (passed_one weighs 5 0 (λ e. omega arith) k).0)
      go false e k = false_true (sym e ∙ eq-eqb checked 0 k)

-- ---- the weights of such an input

module _ (ratio : Float) (c : FitConfig) (ks ws weights : List Float) (s : Sized c ks ws weights) where
  some_now : 1 ≤ length weights
  some_now = omega (arith, s.least, s.weights_long)

  few_now : length weights ≤ 256
  few_now = omega (arith, s.most, s.weights_long)

  weighed_now : weights_of ratio weights ≡ weighed ratio weights
  weighed_now = weights_are ratio weights some_now few_now

  -- of what the code holds, w
  module _ (w : Weights) (e : w ≡ weights_of ratio weights) where
    pub ok_is : w.ok ≡ all_good (scaled_of ratio weights)
    ok_is = ap (λ (w : Weights). w.ok) (e ∙ weighed_now)

    pub cap_is : w.cap ≡ cap_of ratio weights
    cap_is = ap (λ (w : Weights). w.cap) (e ∙ weighed_now)

  -- and of the room that it lent, as it was before and after
  module _ (before after : List Float) (e : after ≡ scaled_in ratio weights before) where
    pub taken : take (length weights) after ≡ scaled_of ratio weights
    taken = ap (take (length weights)) e ∙ take_scaled ratio weights before some_now few_now

    pub scaled_long : length (take (length weights) after) ≡ length weights
    scaled_long = ap length taken ∙ scaled_length ratio weights

    pub scaled_within : length weights ≤ length after
    scaled_within = omega (arith, scaled_long, length-take (length weights) after)
