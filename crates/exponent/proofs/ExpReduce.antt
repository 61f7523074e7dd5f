-- The reduction of exp: for a from 0.3466 to 746, n is the whole number next to a / ln 2, and what is left of a is at most 0.34661 in size. Assumes nothing.
use Rattle.std.proofs.Common.{◌≡◌, ℕ, ◌+◌, ◌-◌, ◌*◌, ◌/◌, ◌^◌, ◌<◌, ◌≤◌, min, Bool, true, false, not, T, ltb, ℤ, pos, sym, refl, ap, ◌∙◌, subst, true≢false, le_trans, le_of_eq, le_of_lt, mul-le-mul_right, mul_comm, mul-le-mul_left, mul-pos, mul-one, div-mul-le_self, le_of_mul-le-mul_right, mul-div_cancel, arith, lit<, lit≤, ltb→lt, lt→ltb, nltb→le, pow_pos}
use native.Mathlib.Nat.{lt-div-mul-add}
use lib.Ieee.{Float, nan, inf, fin, up, down, neg, sub, lt, of_bits, to_unsigned}
use lib.Ieee.Fits.{down_pos}
use lib.Ieee.Exact.{HasValue}
use lib.Ieee.Nearest.{div_same, div_mono}
use Rattle.laws.specs.Floats.{◌+f◌, ◌-f◌, ◌*f◌, num, half}
use Rattle.exponent.specs.Steps.{inv_ln2, ln2_hi, ln2_lo, c746}
use Rattle.exponent.specs.Exp.{edge, quotient_of, turns_of, rest_of}
use Rattle.laws.proofs.Near.{Near, near_cancel}
use Rattle.laws.proofs.Rounded.{Rounds, rounded}
use Rattle.laws.proofs.Ops.{mul_value, add_value, sub_value_less, num_value, neg_value}
use Rattle.laws.proofs.Interval.{Iv, iv_round, iv_sub}

inv_value : HasValue inv_ln2 false 3248660424278399 2251799813685248
unfolding of_bits
inv_value = (refl, refl)

half_value : HasValue half false 1 2
unfolding of_bits
half_value = (refl, refl)

hi_value : HasValue ln2_hi false 2977044471 4294967296
unfolding of_bits
hi_value = (refl, refl)

-- ---- whole numbers only: U is 2 ^ 1074, w is 2 ^ 1040, a is x / d, I / J is a constant and p / q a short fraction near it
product_in : (x d U I J : ℕ) → 0 < d → 0 < U → 0 < J → I ≤ 2 * J → x ≤ 2000 * d → x * I * U < 1048576 * U * (d * J)
product_in x d U I J D Z Y i h = omega (arith, mul-le-mul_right (I * U) h, mul-le-mul_right (d * U) i, mul-pos (mul-pos D Z) Y)

ratio_low : (x d G w U I J p q : ℕ) → 0 < J → p * J ≤ I * q → Near (G * (d * J)) (x * I * U) (d * J * w) → x * p * U ≤ (G + w) * d * q
ratio_low x d G w U I J p q Y h n = le_of_mul-le-mul_right {m = x * p * U} {n = (G + w) * d * q} {k = J} (omega (arith, mul-le-mul_left (x * U) h, mul-le-mul_right q n.1)) Y

ratio_high : (x d G w U I J p q : ℕ) → 0 < J → I * q ≤ p * J → Near (G * (d * J)) (x * I * U) (d * J * w) → G * d * q ≤ x * p * U + d * q * w
ratio_high x d G w U I J p q Y h n = le_of_mul-le-mul_right {m = G * d * q} {n = x * p * U + d * q * w} {k = J} (omega (arith, mul-le-mul_left (x * U) h, mul-le-mul_right q n.0)) Y

-- a / ln 2 is Gp / U: at least a half, and 1077 at most
product_low : (x d G w U : ℕ) → 0 < d → 1048576 * w ≤ U → 34659 * d ≤ x * 100000 → x * 144269504 * U ≤ (G + w) * d * 100000000 → 1 * U ≤ G * 2
product_low x d G w U D W h l = le_of_mul-le-mul_right {m = 1 * U} {n = G * 2} {k = d} (omega (arith, mul-le-mul_right U h, mul-le-mul_right d W)) D

product_high : (x d G w U : ℕ) → 0 < d → 1048576 * w ≤ U → x ≤ 746 * d → G * d * 100000000 ≤ x * 144269505 * U + d * 100000000 * w → G ≤ 1077 * U
product_high x d G w U D W h l = le_of_mul-le-mul_right {m = G} {n = 1077 * U} {k = d} (omega (arith, mul-le-mul_right U h, mul-le-mul_right d W)) D

-- q is Gq / U and its whole part is n
turns_low : (x d Gp Gq n w U : ℕ) → 0 < U → 1048576 * w ≤ U → n * U ≤ Gq → Near (Gq * 2) (Gp * 2 + 1 * U) (2 * w) → Gp * d * 100000000 ≤ x * 144269505 * U + d * 100000000 * w
    → 200000000 * n * d ≤ x * 288539010 + 100000400 * d
turns_low x d Gp Gq n w U Z W h q p =
    le_of_mul-le-mul_right {m = 200000000 * n * d} {n = x * 288539010 + 100000400 * d} {k = U} (omega (arith, mul-le-mul_right d h, mul-le-mul_right d q.0, mul-le-mul_right d W)) Z

turns_high : (x d Gp Gq n w U : ℕ) → 0 < U → 1048576 * w ≤ U → Gq ≤ n * U + U → Near (Gq * 2) (Gp * 2 + 1 * U) (2 * w) → x * 144269504 * U ≤ (Gp + w) * d * 100000000
    → x * 288539008 ≤ 200000000 * n * d + 100000400 * d
turns_high x d Gp Gq n w U Z W h q p =
    le_of_mul-le-mul_right {m = x * 288539008} {n = 200000000 * n * d + 100000400 * d} {k = U} (omega (arith, mul-le-mul_right d h, mul-le-mul_right d q.1, mul-le-mul_right d W)) Z

few : (x d n : ℕ) → 0 < d → x ≤ 746 * d → 200000000 * n * d ≤ x * 288539010 + 100000400 * d → n ≤ 1100
few x d n D h k = le_of_mul-le-mul_right {m = n} {n = 1100} {k = d} (omega arith) D

-- a and n * ln2-hi, which is G / U, differ by 363440 / 2^20 at most. In short steps, since `omega` works with 38 digits at most.
upper_x : (x d n : ℕ) → x * 288539008 ≤ 200000000 * n * d + 100000400 * d → x * 100000000 ≤ 69314719 * n * d + 34657500 * d
upper_x x d n h = omega arith

lower_x : (x d n : ℕ) → 200000000 * n * d ≤ x * 288539010 + 100000400 * d → 69314717 * n * d ≤ x * 100000000 + 34657500 * d
lower_x x d n h = omega arith

-- X is x U, N is n d U, D is d U, Y is G d, V' is d w
above_line : (X N D Y Z : ℕ) → X * 100000000 ≤ 69314719 * N + 34657500 * D → 69314718 * N ≤ (Y + Z) * 100000000 → N ≤ 1100 * D → 1048576 * Z ≤ D → (X - Y) * 1048576 ≤ 363440 * D
above_line X N D Y Z a b c e = let k : X * 100000000 ≤ (Y + Z) * 100000000 + 34658600 * D = omega arith in last k
  where
    last : X * 100000000 ≤ (Y + Z) * 100000000 + 34658600 * D → (X - Y) * 1048576 ≤ 363440 * D
    last k = omega (arith, k, e)

beneath_line : (X N D Y Z : ℕ) → 69314717 * N ≤ X * 100000000 + 34657500 * D → Y * 100000000 ≤ 69314719 * N + Z * 100000000 → N ≤ 1100 * D → 1048576 * Z ≤ D → (Y - X) * 1048576 ≤ 363440 * D
beneath_line X N D Y Z a b c e = let k : Y * 100000000 ≤ (X + Z) * 100000000 + 34659700 * D = omega arith in last k
  where
    last : Y * 100000000 ≤ (X + Z) * 100000000 + 34659700 * D → (Y - X) * 1048576 ≤ 363440 * D
    last k = omega (arith, k, e)

above : (x d n G w U : ℕ) → 1048576 * w ≤ U → n ≤ 1100 → x * 288539008 ≤ 200000000 * n * d + 100000400 * d → n * 69314718 * U ≤ (G + w) * 1 * 100000000
    → (x * U - G * d) * 1048576 ≤ 363440 * (d * U)
above x d n G w U W N h g =
    let a : x * U * 100000000 ≤ 69314719 * (n * (d * U)) + 34657500 * (d * U) = omega (arith, mul-le-mul_right U (upper_x x d n h)) in
    let b : 69314718 * (n * (d * U)) ≤ (G * d + d * w) * 100000000 = omega (arith, mul-le-mul_right d g) in
    let e : 1048576 * (d * w) ≤ d * U = omega (arith, mul-le-mul_right d W) in
    above_line (x * U) (n * (d * U)) (d * U) (G * d) (d * w) a b (mul-le-mul_right (d * U) N) e

beneath : (x d n G w U : ℕ) → 1048576 * w ≤ U → n ≤ 1100 → 200000000 * n * d ≤ x * 288539010 + 100000400 * d → G * 1 * 100000000 ≤ n * 69314719 * U + 1 * 100000000 * w
    → (G * d - x * U) * 1048576 ≤ 363440 * (d * U)
beneath x d n G w U W N h g =
    let a : 69314717 * (n * (d * U)) ≤ x * U * 100000000 + 34657500 * (d * U) = omega (arith, mul-le-mul_right U (lower_x x d n h)) in
    let b : G * d * 100000000 ≤ 69314719 * (n * (d * U)) + d * w * 100000000 = omega (arith, mul-le-mul_right d g) in
    let e : 1048576 * (d * w) ≤ d * U = omega (arith, mul-le-mul_right d W) in
    beneath_line (x * U) (n * (d * U)) (d * U) (G * d) (d * w) a b (mul-le-mul_right (d * U) N) e

sum_in : (G U : ℕ) → 0 < U → G ≤ 1077 * U → (G * 2 + 1 * U) * U < 1048576 * U * (U * 2)
sum_in G U Z h = omega (arith, mul-le-mul_right U h, mul-pos Z Z)

sum_near : (Gq Gp w U : ℕ) → 0 < U → Near (Gq * (U * 2)) ((Gp * 2 + 1 * U) * U) (U * 2 * w) → Near (Gq * 2) (Gp * 2 + 1 * U) (2 * w)
sum_near Gq Gp w U Z h = near_cancel (Gq * 2) (Gp * 2 + 1 * U) (2 * w) U Z (omega arith)

sum_high : (Gq Gp w U : ℕ) → 1048576 * w ≤ U → Gp ≤ 1077 * U → Near (Gq * 2) (Gp * 2 + 1 * U) (2 * w) → Gq ≤ 1100 * U
sum_high Gq Gp w U W h n = omega arith

wider : (x d : ℕ) → x ≤ 746 * d → x ≤ 2000 * d
wider x d h = omega arith

fewer : (n : ℕ) → n ≤ 1100 → n ≤ 2000 * 1
fewer n h = omega arith

least_of : (x d : ℕ) → 780473815423307 * d < x * 2251799813685248 → 34659 * d ≤ x * 100000
least_of x d h = omega arith

low_part : (n : ℕ) → n ≤ 1100 → n * 3691024475790907 * 1048576 ≤ 1 * (1 * 19342813113834066795298816)
low_part n h = omega arith

lo_value : HasValue ln2_lo false 3691024475790907 19342813113834066795298816
unfolding of_bits
lo_value = (refl, refl)

-- ---- on floats
-- the whole part of a value G / U below 2 ^ 64
whole_part : (q : Float) (G U : ℕ) → 0 < U → HasValue q false G U → G ≤ 1100 * U → to_unsigned 64 q ≡ G / U
unfolding to_unsigned
whole_part nan G U Z h l = absurd h
whole_part (inf s) G U Z h l = absurd h
whole_part (fin true m e) G U Z h l = absurd (true≢false h.0)
whole_part (fin false m e) G U Z h l =
    ap (λ (n : ℕ). min n 18446744073709551615) (div_same (m * up e) (down e) G U (down_pos e) Z h.1)
    ∙ low (G / U) (le_trans (div_mono G U (1100 * U) U Z Z (mul-le-mul_right U l)) (le_of_eq (mul-div_cancel 1100 Z)))
  where
    low : (n : ℕ) → n ≤ 1100 → min n 18446744073709551615 ≡ n
    low n h = omega arith

-- in the range that the cast asks for
cast_in : (q : Float) (G U : ℕ) → 0 < U → HasValue q false G U → G ≤ 1100 * U → T (lt (fin true 1 (pos 0)) q) × T (lt q (fin false 1 (pos 64)))
unfolding lt
cast_in nan G U Z h l = absurd h
cast_in (inf s) G U Z h l = absurd h
cast_in (fin true m e) G U Z h l = absurd (true≢false h.0)
cast_in (fin false m e) G U Z h l =
    (lt→ltb 0 (1 * down e + m * up e * 1) (some (down e) (m * up e * 1) (down_pos e)), lt→ltb (m * up e * 1) (18446744073709551616 * down e) (below (m * up e) (down e) (down_pos e) h.1))
  where
    some : (d x : ℕ) → 0 < d → 0 < 1 * d + x
    some d x h = omega arith

    below : (x d : ℕ) → 0 < d → x * U ≡ G * d → x * 1 < 18446744073709551616 * d
    below x d D q =
        let k : x ≤ 1100 * d = le_of_mul-le-mul_right {m = x} {n = 1100 * d} {k = U} (omega (arith, mul-le-mul_right d l)) Z in
        omega arith

abbrev U : ℕ
U = 2 ^ 1074

abbrev w : ℕ
w = 2 ^ 1040

U_pos : 0 < U
U_pos = pow_pos 1074

wide : 1048576 * w ≤ U
wide = lit≤ tt

module _ (m : ℕ) (e : ℤ) (L : m * up e ≤ 746 * down e) (E : 780473815423307 * down e < m * up e * 2251799813685248) where
  product : Rounds (fin false m e *f inv_ln2) false (m * up e * 3248660424278399) (down e * 2251799813685248) w
  product =
      subst (λ (z : Float). Rounds z false (m * up e * 3248660424278399) (down e * 2251799813685248) w)
      (sym (mul_value (fin false m e) inv_ln2 false false (m * up e) (down e) 3248660424278399 2251799813685248 (down_pos e) (lit< tt) (refl, refl) inv_value))
      (rounded false (m * up e * 3248660424278399) (down e * 2251799813685248) 1094 w (mul-pos (down_pos e) (lit< tt)) (lit≤ tt) (lit≤ tt)
      (product_in (m * up e) (down e) U 3248660424278399 2251799813685248 (down_pos e) U_pos (lit< tt) (lit≤ tt) (wider (m * up e) (down e) L)))

  Gp : ℕ
  Gp = product.G

  p_low : m * up e * 144269504 * U ≤ (Gp + w) * down e * 100000000
  unfolding Gp
  p_low = ratio_low (m * up e) (down e) Gp w U 3248660424278399 2251799813685248 144269504 100000000 (lit< tt) (lit≤ tt) product.near

  p_high : Gp * down e * 100000000 ≤ m * up e * 144269505 * U + down e * 100000000 * w
  unfolding Gp
  p_high = ratio_high (m * up e) (down e) Gp w U 3248660424278399 2251799813685248 144269505 100000000 (lit< tt) (lit≤ tt) product.near

  p_most : Gp ≤ 1077 * U
  p_most = product_high (m * up e) (down e) Gp w U (down_pos e) wide L p_high

  total : Rounds (quotient_of (fin false m e)) false (Gp * 2 + 1 * U) (U * 2) w
  unfolding Gp
  total =
      subst (λ (z : Float). Rounds z false (Gp * 2 + 1 * U) (U * 2) w)
      (sym (add_value (fin false m e *f inv_ln2) half false Gp U 1 2 U_pos (lit< tt) product.value half_value (product_low (m * up e) (down e) Gp w U (down_pos e) wide (least_of (m * up e) (down e) E) p_low)))
      (rounded false (Gp * 2 + 1 * U) (U * 2) 1094 w (lit< tt) (lit≤ tt) (lit≤ tt) (sum_in Gp U U_pos p_most))

  Gq : ℕ
  Gq = total.G

  q_near : Near (Gq * 2) (Gp * 2 + 1 * U) (2 * w)
  unfolding Gq
  q_near = sum_near Gq Gp w U U_pos total.near

  q_most : Gq ≤ 1100 * U
  q_most = sum_high Gq Gp w U wide p_most q_near

  n : ℕ
  n = Gq / U

  turns_is : to_unsigned 64 (quotient_of (fin false m e)) ≡ n
  unfolding Gq n
  turns_is = whole_part (quotient_of (fin false m e)) Gq U U_pos total.value q_most

  turns_in : T (lt (fin true 1 (pos 0)) (quotient_of (fin false m e))) × T (lt (quotient_of (fin false m e)) (fin false 1 (pos 64)))
  unfolding Gq
  turns_in = cast_in (quotient_of (fin false m e)) Gq U U_pos total.value q_most

  n_low : 200000000 * n * down e ≤ m * up e * 288539010 + 100000400 * down e
  unfolding n
  n_low = turns_low (m * up e) (down e) Gp Gq n w U U_pos wide (div-mul-le_self Gq U) q_near p_high

  n_high : m * up e * 288539008 ≤ 200000000 * n * down e + 100000400 * down e
  unfolding n
  n_high = turns_high (m * up e) (down e) Gp Gq n w U U_pos wide (le_of_lt (lt-div-mul-add U_pos)) q_near p_low

  n_few : n ≤ 1100
  n_few = few (m * up e) (down e) n (down_pos e) L n_low

  whole_n : HasValue (num n) false n 1
  whole_n = num_value n (le_trans n_few (lit≤ tt))

  high : Rounds (num n *f ln2_hi) false (n * 2977044471) (1 * 4294967296) w
  high =
      subst (λ (z : Float). Rounds z false (n * 2977044471) (1 * 4294967296) w)
      (sym (mul_value (num n) ln2_hi false false n 1 2977044471 4294967296 (lit< tt) (lit< tt) whole_n hi_value))
      (rounded false (n * 2977044471) (1 * 4294967296) 1094 w (lit< tt) (lit≤ tt) (lit≤ tt) (product_in n 1 U 2977044471 4294967296 (lit< tt) U_pos (lit< tt) (lit≤ tt) (fewer n n_few)))

  first : Iv (fin false m e -f num n *f ln2_hi) 363441 363441
  unfolding sub
  first = go (ltb (m * up e * U) (high.G * down e)) (ltb→lt (m * up e * U) (high.G * down e)) (nltb→le (m * up e * U) (high.G * down e))
    where
      y : HasValue (neg (num n *f ln2_hi)) true high.G U
      y = neg_value (num n *f ln2_hi) high.G U high.value

      go : (t : Bool) → (T t → m * up e * U < high.G * down e) → (T (not t) → high.G * down e ≤ m * up e * U) → Iv (fin false m e +f neg (num n *f ln2_hi)) 363441 363441
      go true f g =
          subst (λ (z : Float). Iv z 363441 363441) (sym (sub_value_less (fin false m e) (neg (num n *f ln2_hi)) (m * up e) (down e) high.G U (down_pos e) U_pos (refl, refl) y (f tt)))
          (iv_round true (high.G * down e - m * up e * U) (U * down e) 363440 363441 363441 (mul-pos U_pos (down_pos e))
          (subst (λ (z : ℕ). (high.G * down e - m * up e * U) * 1048576 ≤ 363440 * z) (mul_comm (down e) U)
          (beneath (m * up e) (down e) n high.G w U wide n_few n_low (ratio_high n 1 high.G w U 2977044471 4294967296 69314719 100000000 (lit< tt) (lit≤ tt) high.near))) (lit≤ tt) (lit≤ tt))
      go false f g =
          subst (λ (z : Float). Iv z 363441 363441) (sym (add_value (fin false m e) (neg (num n *f ln2_hi)) true (m * up e) (down e) high.G U (down_pos e) U_pos (refl, refl) y (g tt)))
          (iv_round false (m * up e * U - high.G * down e) (down e * U) 363440 363441 363441 (mul-pos (down_pos e) U_pos)
          (above (m * up e) (down e) n high.G w U wide n_few n_high (ratio_low n 1 high.G w U 2977044471 4294967296 69314718 100000000 (lit< tt) (lit≤ tt) high.near)) (lit≤ tt) (lit≤ tt))

  low : Iv (num n *f ln2_lo) 2 2
  low =
      subst (λ (z : Float). Iv z 2 2) (sym (mul_value (num n) ln2_lo false false n 1 3691024475790907 19342813113834066795298816 (lit< tt) (lit< tt) whole_n lo_value))
      (iv_round false (n * 3691024475790907) (1 * 19342813113834066795298816) 1 2 2 (lit< tt) (low_part n n_few) (lit≤ tt) (lit≤ tt))

  rest_iv : Iv (fin false m e -f num n *f ln2_hi -f num n *f ln2_lo) 363444 363444
  rest_iv = iv_sub (fin false m e -f num n *f ln2_hi) (num n *f ln2_lo) 363441 363441 2 2 363444 363444 (lit≤ tt) (lit≤ tt) (lit≤ tt) (lit≤ tt) first low

-- ---- a float a above `edge` and at most 746
open_a : (m : ℕ) (e : ℤ) → T (lt edge (fin false m e)) → T (not (lt c746 (fin false m e))) → (m * up e ≤ 746 * down e) × (780473815423307 * down e < m * up e * 2251799813685248)
unfolding lt of_bits
open_a m e p q = (le_trans (le_of_eq (sym (mul-one (m * up e)))) (nltb→le (746 * down e) (m * up e * 1) q), ltb→lt (780473815423307 * down e) (m * up e * 2251799813685248) p)

only_fin : (a : Float) → T (lt edge a) → T (not (lt c746 a)) → (P : Float → Type 0) → ((m : ℕ) (e : ℤ) → a ≡ fin false m e → P (fin false m e)) → P a
unfolding lt of_bits
only_fin nan p q P h = absurd p
only_fin (inf true) p q P h = absurd p
only_fin (inf false) p q P h = absurd q
only_fin (fin true m e) p q P h = absurd p
only_fin (fin false m e) p q P h = h m e refl

module _ (a : Float) (p : T (lt edge a)) (q : T (not (lt c746 a))) where
  opened : (m : ℕ) (e : ℤ) → a ≡ fin false m e → (m * up e ≤ 746 * down e) × (780473815423307 * down e < m * up e * 2251799813685248)
  opened m e s = open_a m e (subst (λ (z : Float). T (lt edge z)) s p) (subst (λ (z : Float). T (not (lt c746 z))) s q)

  pub cast_fine : T (lt (fin true 1 (pos 0)) (quotient_of a)) × T (lt (quotient_of a) (fin false 1 (pos 64)))
  cast_fine = only_fin a p q (λ (z : Float). T (lt (fin true 1 (pos 0)) (quotient_of z)) × T (lt (quotient_of z) (fin false 1 (pos 64)))) (λ m e s. let o = opened m e s in turns_in m e o.0 o.1)

  pub turns_le : turns_of a ≤ 1100
  unfolding turns_of
  turns_le = only_fin a p q (λ (z : Float). to_unsigned 64 (quotient_of z) ≤ 1100) (λ m e s. let o = opened m e s in subst (λ (k : ℕ). k ≤ 1100) (sym (turns_is m e o.0 o.1)) (n_few m e o.0 o.1))

  pub rest_small : Iv (rest_of a (turns_of a)) 363444 363444
  unfolding turns_of rest_of
  rest_small = only_fin a p q (λ (z : Float). Iv (z -f num (to_unsigned 64 (quotient_of z)) *f ln2_hi -f num (to_unsigned 64 (quotient_of z)) *f ln2_lo) 363444 363444)
      (λ m e s. let o = opened m e s in
      subst (λ (k : ℕ). Iv (fin false m e -f num k *f ln2_hi -f num k *f ln2_lo) 363444 363444) (sym (turns_is m e o.0 o.1)) (rest_iv m e o.0 o.1))
