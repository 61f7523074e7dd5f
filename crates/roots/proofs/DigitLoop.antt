-- The arithmetic of one turn of the digit loop. Assumes nothing.
use mathlib.Core.Path.{◌≡◌, ap, ◌∙◌}
use Prim.Native.Nat.{ℕ, suc, ◌+◌, ◌-◌, ◌*◌, ◌/◌, ◌%◌, ◌^◌, ◌≤◌, ◌<◌}
use native.Mathlib.Nat.{mul-le-mul_right, mul-le-mul_left, mod-one}
use native.Mathlib.Omega.{arith}
use lib.Pow.{pow-add, pow_pos, mod-pow-add}
use Rattle.roots.specs.Root.{sq}
use Rattle.roots.specs.Inner.{RootPair}

-- what holds at the loop's head: n is the whole number whose root is taken
pub record Head (n word left root rem : ℕ) : Type 0 where
  pub small : rem ≤ 2 * root
  pub room : suc root * 2 ^ left ≤ 2 ^ 60
  pub sum : (sq root + rem) * 2 ^ (left * 2) + word % 2 ^ (left * 2) ≡ n
  pub few : left ≤ 32

pub under : (root left : ℕ) → suc root * 2 ^ left ≤ 2 ^ 60 → root < 2 ^ 60
under root left h = omega (arith, mul-le-mul_left (suc root) (pow_pos left))

pow_four : (left : ℕ) → 0 < left → 2 ^ (left * 2) ≡ 4 * 2 ^ ((left - 1) * 2)
pow_four left h =
    let e : left * 2 ≡ 2 + (left - 1) * 2 = omega arith in
    ap (λ (x : ℕ). 2 ^ x) e ∙ pow-add 2 2 ((left - 1) * 2)

pow_two : (left : ℕ) → 0 < left → 2 ^ left ≡ 2 * 2 ^ (left - 1)
pow_two left h =
    let e : left ≡ 1 + (left - 1) = omega arith in
    ap (λ (x : ℕ). 2 ^ x) e ∙ pow-add 2 1 (left - 1)

mod_four : (word left : ℕ) → 0 < left → word % 2 ^ (left * 2) ≡ (word / 2 ^ ((left - 1) * 2) % 4) * 2 ^ ((left - 1) * 2) + word % 2 ^ ((left - 1) * 2)
mod_four word left h =
    let e : left * 2 ≡ 2 + (left - 1) * 2 = omega arith in
    ap (λ (x : ℕ). word % 2 ^ x) e ∙ mod-pow-add word 2 ((left - 1) * 2)

-- the number that the next pair of digits makes of `rem`
abbrev pub fed : ℕ → ℕ → ℕ → ℕ
fed word left rem = rem * 4 + word / 2 ^ ((left - 1) * 2) % 4

module _ (n word left root rem : ℕ) (H : Head n word left root rem) (some : 0 < left) where
  fed_sum : (4 * sq root + fed word left rem) * 2 ^ ((left - 1) * 2) + word % 2 ^ ((left - 1) * 2) ≡ n
  fed_sum =
      let h : (sq root + rem) * (4 * 2 ^ ((left - 1) * 2)) + ((word / 2 ^ ((left - 1) * 2) % 4) * 2 ^ ((left - 1) * 2) + word % 2 ^ ((left - 1) * 2)) ≡ n =
      rw (mod_four word left some, pow_four left some) at H.sum in
      omega arith

  room_again : (root' : ℕ) → root' ≤ root * 2 + 1 → suc root' * 2 ^ (left - 1) ≤ 2 ^ 60
  room_again root' h =
      let r : suc root * (2 * 2 ^ (left - 1)) ≤ 2 ^ 60 = rw (pow_two left some) at H.room in
      let g : suc root' ≤ 2 * suc root = omega arith in
      omega (arith, mul-le-mul_right (2 ^ (left - 1)) g)

  pub even_turn : fed word left rem < root * 4 + 1 → Head n word (left - 1) (root * 2) (fed word left rem)
  even_turn h = record {
    small = omega arith;
    room = room_again (root * 2) (omega arith);
    sum =
        let e : sq (root * 2) + fed word left rem ≡ 4 * sq root + fed word left rem = omega arith in
        rw e fed_sum;
    few = omega (arith, H.few);
  }

  pub odd_turn : root * 4 + 1 ≤ fed word left rem → Head n word (left - 1) (root * 2 + 1) (fed word left rem - (root * 4 + 1))
  odd_turn h = record {
    small = omega (arith, H.small);
    room = room_again (root * 2 + 1) (omega arith);
    sum =
        let e : sq (root * 2 + 1) + (fed word left rem - (root * 4 + 1)) ≡ 4 * sq root + fed word left rem = omega arith in
        rw e fed_sum;
    few = omega (arith, H.few);
  }

-- at the end every digit has been fed
pub done : (n word left root rem : ℕ) → Head n word left root rem → left ≤ 0 → RootPair n root rem
done n word left root rem H h =
    let z : left * 2 ≡ 0 = omega arith in
    let e : (sq root + rem) * 2 ^ 0 + word % 2 ^ 0 ≡ n = rw z at H.sum in
    record { sum = omega (arith, mod-one word); small = H.small }
