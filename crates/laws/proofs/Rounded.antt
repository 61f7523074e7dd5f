-- How far `round` moves a number: a value below 2 ^ (t - 1074) moves by 2 ^ (t - 54 - 1074) at most, subnormal results included. Assumes nothing.
use mathlib.Core.Path.{sym, subst}
use Prim.Native.Nat.{ℕ, ◌+◌, ◌-◌, ◌*◌, ◌/◌, ◌^◌, ◌≤◌, ◌<◌}
use native.Mathlib.Nat.{le_trans, lt_of_lt_of_le, mul-pos, lt_of_mul-lt-mul_right, div-lt_iff_lt-mul}
use native.Mathlib.Omega.{arith}
use mathlib.Core.Bool.{Bool}
use lib.Pow.{pow_pos, pow_mono}
use lib.Ieee.{Float, binary64, size, round}
use lib.Ieee.Digits.{size-le}
use lib.Ieee.Fits.{round_is}
use lib.Ieee.Exact.{HasValue, units_val}
use lib.Ieee.Nearest.{closest}
use lib.Ieee.Order.{drop, kept}
use lib.Ieee.Scale.{grid, overflow}
use Rattle.laws.proofs.Near.{Near, closest_near, half_step}

-- x has the sign s and is G / 2 ^ 1074 in size, and that is within w / 2 ^ 1074 of a / c
pub record Rounds (x : Float) (s : Bool) (a c w : ℕ) : Type 0 where
  pub G : ℕ
  pub value : HasValue x s G (2 ^ 1074)
  pub near : Near (G * c) (a * 2 ^ 1074) (c * w)

less : (z t p : ℕ) → z ≤ t → z - p ≤ t - p
less z t p h = omega arith

under : (G c n S w : ℕ) → 0 < c → G * c ≤ n + c * w → n < S * c → G < S + w
under G c n S w C h k = lt_of_mul-lt-mul_right c (sum)
  where
    sum : G * c < (S + w) * c
    sum = omega arith

grid_near : (a c t w : ℕ) → 0 < c → 2 ^ (t - 53) ≤ 2 * w → a * 2 ^ 1074 < 2 ^ t * c → Near (grid binary64 a c * c) (a * 2 ^ 1074) (c * w)
grid_near a c t w C W h =
    let n = a * 2 ^ 1074 in
    let k = drop 53 n c in
    half_step (closest n (c * 2 ^ k)) (2 ^ k) c n w (closest_near n (c * 2 ^ k) (mul-pos C (pow_pos k)))
    (le_trans (pow_mono (less (size (n / c)) t 53 (size-le (n / c) t ((div-lt_iff_lt-mul C).1 h)))) W)

value_at : (s : Bool) (a c : ℕ) → grid binary64 a c < overflow binary64 → HasValue (round binary64 s a c) s (grid binary64 a c) (2 ^ 1074)
value_at s a c h =
    subst (λ (z : Float). HasValue z s (grid binary64 a c) (2 ^ 1074)) (sym (round_is binary64 s a c))
    (units_val binary64 s (kept 53 (a * 2 ^ 1074) c) (drop 53 (a * 2 ^ 1074) c) h)

pub rounded : (s : Bool) (a c t w : ℕ) → 0 < c → 2 ^ (t - 53) ≤ 2 * w → 2 ^ t + w ≤ 2 ^ 2098 → a * 2 ^ 1074 < 2 ^ t * c → Rounds (round binary64 s a c) s a c w
rounded s a c t w C W O h =
    let near = grid_near a c t w C W h in
    record {
      G = grid binary64 a c;
      value = value_at s a c (lt_of_lt_of_le (under (grid binary64 a c) c (a * 2 ^ 1074) (2 ^ t) w C near.0 h) O);
      near = near;
    }
