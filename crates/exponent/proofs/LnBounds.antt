-- The steps of ln by their bounds: with f of size 0.4148 at most, the sum lies from -746 to 710. Numbers here are in units of 2^-20. Assumes nothing.
use Rattle.std.proofs.Common.{◌≡◌, ℕ, ◌+◌, ◌-◌, ◌*◌, ◌^◌, ◌<◌, ◌≤◌, false, negsuc, refl, subst, le_trans, mul-le-mul, arith, lit<, lit≤}
use lib.Ieee.{Float, of_bits}
use lib.Ieee.Exact.{HasValue}
use Rattle.laws.specs.Floats.{◌+f◌, ◌-f◌, ◌*f◌, ◌/f◌, num, +0, two}
use Rattle.exponent.specs.Steps.{three, ln2_hi, ln2_lo, grid18, grid35, rounded_to, lost_of}
use Rattle.exponent.specs.Ln.{tail_of, ratio_of, fifth_of, cross_of, head_of, behind_of, cube_of, low_of, ln_from, sum_of}
use Rattle.laws.proofs.Loops.{for_keeps}
use Rattle.laws.proofs.Ops.{num_value}
use Rattle.laws.proofs.Interval.{Iv, Least, iv_add, iv_sub, iv_mul, iv_mul_plus, iv_div, iv_widen, least_value, above_least, above_sum}
use Rattle.laws.proofs.Lies.{lost_iv, head_iv, rest_iv}

two_iv : Iv two 2097152 2097152
unfolding of_bits
two_iv = lit≤ tt

lo_iv : Iv ln2_lo 1 1
unfolding of_bits
lo_iv = lit≤ tt

two_value : HasValue two false 2 1
unfolding of_bits
two_value = (refl, refl)

three_value : HasValue three false 3 1
unfolding of_bits
three_value = (refl, refl)

-- 2 + f is 2 - F at least
least_two : (f : Float) (F R : ℕ) → F + R + 1 ≤ 2097152 → Iv f F F → Least (two +f f) R
least_two f F R q h = above_least (two +f f) R (above_sum two f 2 F R two_value (lit≤ tt) q h)

-- ---- the tail
num_least : (k : ℕ) → 3 ≤ k → k ≤ 2 ^ 53 → Least (num k) 3145728
num_least k h l = least_value (num k) false k 1 3145728 (lit< tt) (num_value k l) (omega arith)

odd_low : (j : ℕ) → j < 11 → 3 ≤ 25 - 2 * j
odd_low j h = omega arith

odd_high : (j : ℕ) → 25 - 2 * j ≤ 9007199254740992
odd_high j = omega arith

turn_iv : (z : Float) (j : ℕ) (p : Float) → j < 11 → Iv z 73000 73000 → Iv p 121700 121700 → Iv ((p +f two /f num (25 - 2 * j)) *f z) 121700 121700
turn_iv z j p l h k =
    let t = two /f num (25 - 2 * j) in
    let q : Iv t 699052 699052 = iv_div two (num (25 - 2 * j)) 2097152 3145728 699051 699052 (lit< tt) (lit≤ tt) (lit≤ tt) (lit≤ tt) two_iv (num_least (25 - 2 * j) (odd_low j l) (odd_high j)) in
    iv_mul (p +f t) z 820753 73000 121699 121700 (lit≤ tt) (lit≤ tt) (lit≤ tt) (iv_add p t 121700 121700 699052 699052 820753 820753 (lit≤ tt) (lit≤ tt) (lit≤ tt) (lit≤ tt) k q) h

zero_iv : Iv +0 121700 121700
unfolding of_bits
zero_iv = lit≤ tt

tail_iv : (z : Float) → Iv z 73000 73000 → Iv (tail_of z) 121700 121700
unfolding tail_of
tail_iv z h = for_keeps (λ (p : Float). Iv p 121700 121700) (λ (j : ℕ) (p : Float). (p +f two /f num (25 - 2 * j)) *f z) 11 (λ j l p k. turn_iv z j p l h k) +0 zero_iv

three_least : Least three 3145728
three_least = least_value three false 3 1 3145728 (lit< tt) three_value (lit≤ tt)

grid18_value : HasValue grid18 false 25769803776 1
unfolding of_bits
grid18_value = (refl, refl)

grid35_value : HasValue grid35 false 196608 1
unfolding of_bits
grid35_value = (refl, refl)

twice : (W : ℕ) → 2097152 * (W + 1) ≤ (2 * W + 2) * 1048576
twice W = omega arith

twice' : (W : ℕ) → (W + 1) * 2097152 ≤ (2 * W + 2) * 1048576
twice' W = omega arith

same : (x : ℕ) → x ≤ x
same x = omega arith

-- ---- the whole sum. |f| is F at most, 2 + f at least R, |s| at most S + 1, so |t| at most S + 9; the other numbers bound the products and quotients in turn
module _ (k f : Float) (B D Af Bf F R S Z M N J W X Y P Q O : ℕ) (K : Iv k 1127219200 B) (I : Iv f Af Bf) (hB : B ≤ 1127219200) (hD : B * 726818 ≤ D * 1048576) (hA : Af ≤ F) (hF : Bf ≤ F) (small : F + R + 1 ≤ 2097152) (size : F ≤ 500000) (sS : S ≤ 500000)
    (pos : 0 < R) (s1 : F * 1048576 ≤ S * R) (z1 : (S + 9) * (S + 9) ≤ Z * 1048576) (z2 : Z ≤ 72000) (m1 : (S + 9) * (F + 8) ≤ M * 1048576) (n1 : (F + S + S + M + 223) * 1048576 ≤ N * R) (v1 : (N + 1) * F ≤ J * 1048576)
    (w1 : (N + 1) * (3 * Z + 5) ≤ W * 1048576) (x1 : (2 * W + 3) * 1048576 ≤ X * 3145728) (y1 : (S + 1) * (Z + 1) ≤ Y * 1048576) (p1 : (Y + 1) * 121700 ≤ P * 1048576) (q1 : (Z + 1) * (S + 9) ≤ Q * 1048576) (o1 : (2 * Q + 3) * 1048576 ≤ O * 3145728)
    (near : S + Z + M + N + J + W + X + Y + P + Q + O ≤ 10000000) (deep : Af + M + O + X + P + J ≤ 906000) (top : D + Bf + M + O + X + P + J + 1300 ≤ 744488960) where
  f_iv : Iv f F F
  f_iv = iv_widen f Af Bf F F hA hF I

  k_iv : Iv k 1127219200 1127219200
  k_iv = iv_widen k 1127219200 B 1127219200 1127219200 (lit≤ tt) hB K

  d_least : Least (two +f f) R
  d_least = least_two f F R small f_iv

  abbrev s : Float
  s = ratio_of f

  abbrev t : Float
  t = rounded_to grid18 s

  abbrev g : Float
  g = rounded_to grid35 f

  abbrev b : Float
  b = behind_of f t

  s_iv : Iv s (S + 1) (S + 1)
  s_iv = iv_div f (two +f f) F R S (S + 1) pos s1 (same (S + 1)) (omega arith) f_iv d_least

  z_iv : Iv (s *f s) (Z + 1) (Z + 1)
  z_iv = iv_mul s s (S + 1) (S + 1) Z (Z + 1) (le_trans (mul-le-mul less less) z1) (same (Z + 1)) (omega arith) s_iv s_iv
    where
      less : S + 1 ≤ S + 9
      less = omega arith

  p_iv : Iv (tail_of (s *f s)) 121700 121700
  p_iv = tail_iv (s *f s) (iv_widen (s *f s) (Z + 1) (Z + 1) 73000 73000 (omega arith) (omega arith) z_iv)

  t_iv : Iv t (S + 9) (S + 9)
  t_iv = subst (λ (E : ℕ). Iv t E E) nine (head_iv grid18 s 25769803776 (S + 1) grid18_value (lit≤ tt) bound s_iv)
    where
      nine : S + 1 + 8 ≡ S + 9
      nine = omega arith

      bound : S + 1 ≤ 1048576
      bound = omega arith

  g_iv : Iv g (F + 8) (F + 8)
  g_iv = head_iv grid35 f 196608 F grid35_value (lit≤ tt) (omega arith) f_iv

  r_iv : Iv (f -f g) 16 16
  r_iv = rest_iv grid35 f 196608 F grid35_value (lit≤ tt) (omega arith) f_iv

  tg_iv : Iv (t *f g) (M + 1) (M + 1)
  tg_iv = iv_mul t g (S + 9) (F + 8) M (M + 1) m1 (same (M + 1)) (omega arith) t_iv g_iv

  w_iv : Iv (cross_of f t) 200 200
  w_iv = iv_mul t (f -f g) (S + 9) 16 199 200 (omega arith) (lit≤ tt) (lit≤ tt) t_iv r_iv

  n_iv : Iv (f -f (t +f t) -f t *f g -f cross_of f t) (F + S + S + M + 223) (F + S + S + M + 223)
  n_iv =
      let i : Iv (t +f t) (S + S + 19) (S + S + 19) = iv_add t t (S + 9) (S + 9) (S + 9) (S + 9) (S + S + 19) (S + S + 19) (omega arith) (omega arith) (omega arith) (omega arith) t_iv t_iv in
      let j : Iv (f -f (t +f t)) (F + S + S + 20) (F + S + S + 20) = iv_sub f (t +f t) F F (S + S + 19) (S + S + 19) (F + S + S + 20) (F + S + S + 20) (omega arith) (omega arith) (omega arith) (omega arith) f_iv i in
      let l : Iv (f -f (t +f t) -f t *f g) (F + S + S + M + 22) (F + S + S + M + 22) = iv_sub (f -f (t +f t)) (t *f g) (F + S + S + 20) (F + S + S + 20) (M + 1) (M + 1) (F + S + S + M + 22) (F + S + S + M + 22) (omega arith) (omega arith) (omega arith) (omega arith) j tg_iv in
      iv_sub (f -f (t +f t) -f t *f g) (cross_of f t) (F + S + S + M + 22) (F + S + S + M + 22) 200 200 (F + S + S + M + 223) (F + S + S + M + 223) (omega arith) (omega arith) (omega arith) (omega arith) l w_iv

  b_iv : Iv b (N + 1) (N + 1)
  b_iv = iv_div (f -f (t +f t) -f t *f g -f cross_of f t) (two +f f) (F + S + S + M + 223) R N (N + 1) pos n1 (same (N + 1)) (omega arith) n_iv d_least

  under_iv : Iv (cross_of f t +f b *f f) (J + 202) (J + 202)
  under_iv =
      let i : Iv (b *f f) (J + 1) (J + 1) = iv_mul b f (N + 1) F J (J + 1) v1 (same (J + 1)) (omega arith) b_iv f_iv in
      iv_add (cross_of f t) (b *f f) 200 200 (J + 1) (J + 1) (J + 202) (J + 202) (omega arith) (omega arith) (omega arith) (omega arith) w_iv i

  tt_iv : Iv (t *f t) (Z + 1) (Z + 1)
  tt_iv = iv_mul t t (S + 9) (S + 9) Z (Z + 1) z1 (same (Z + 1)) (omega arith) t_iv t_iv

  st_iv : Iv (s *f t) (Z + 1) (Z + 1)
  st_iv = iv_mul s t (S + 1) (S + 9) Z (Z + 1) (le_trans (mul-le-mul less (same (S + 9))) z1) (same (Z + 1)) (omega arith) s_iv t_iv
    where
      less : S + 1 ≤ S + 9
      less = omega arith

  fifth_iv : Iv (fifth_of s t b (tail_of (s *f s))) (X + P + 3) (X + P + 3)
  unfolding fifth_of
  fifth_iv =
      let c = s *f s +f s *f t +f t *f t in
      let i : Iv (s *f s +f s *f t) (2 * Z + 3) (2 * Z + 3) = iv_add (s *f s) (s *f t) (Z + 1) (Z + 1) (Z + 1) (Z + 1) (2 * Z + 3) (2 * Z + 3) (omega arith) (omega arith) (omega arith) (omega arith) z_iv st_iv in
      let j : Iv c (3 * Z + 5) (3 * Z + 5) = iv_add (s *f s +f s *f t) (t *f t) (2 * Z + 3) (2 * Z + 3) (Z + 1) (Z + 1) (3 * Z + 5) (3 * Z + 5) (omega arith) (omega arith) (omega arith) (omega arith) i tt_iv in
      let l : Iv (b *f c) (W + 1) (W + 1) = iv_mul b c (N + 1) (3 * Z + 5) W (W + 1) w1 (same (W + 1)) (omega arith) b_iv j in
      let m : Iv (b *f c *f two) (2 * W + 3) (2 * W + 3) = iv_mul (b *f c) two (W + 1) 2097152 (2 * W + 2) (2 * W + 3) (twice' W) (omega arith) (omega arith) l two_iv in
      let n : Iv (b *f c *f two /f three) (X + 1) (X + 1) = iv_div (b *f c *f two) three (2 * W + 3) 3145728 X (X + 1) (lit< tt) x1 (same (X + 1)) (omega arith) m three_least in
      let o : Iv (s *f (s *f s)) (Y + 1) (Y + 1) = iv_mul s (s *f s) (S + 1) (Z + 1) Y (Y + 1) y1 (same (Y + 1)) (omega arith) s_iv z_iv in
      let q : Iv (s *f (s *f s) *f tail_of (s *f s)) (P + 1) (P + 1) = iv_mul (s *f (s *f s)) (tail_of (s *f s)) (Y + 1) 121700 P (P + 1) p1 (same (P + 1)) (omega arith) o p_iv in
      iv_add (b *f c *f two /f three) (s *f (s *f s) *f tail_of (s *f s)) (X + 1) (X + 1) (P + 1) (P + 1) (X + P + 3) (X + P + 3) (omega arith) (omega arith) (omega arith) (omega arith) n q

  low_iv : Iv (low_of k f s (tail_of (s *f s)) t) (X + P + J + 1283) (X + P + J + 1283)
  low_iv =
      let i : Iv (k *f ln2_lo) 1076 1076 = iv_mul k ln2_lo 1127219200 1 1075 1076 (lit≤ tt) (lit≤ tt) (lit≤ tt) k_iv lo_iv in
      let y = cross_of f t +f b *f f in
      let x = fifth_of s t b (tail_of (s *f s)) in
      let j : Iv (x -f y) (X + P + J + 206) (X + P + J + 206) = iv_sub x y (X + P + 3) (X + P + 3) (J + 202) (J + 202) (X + P + J + 206) (X + P + J + 206) (omega arith) (omega arith) (omega arith) (omega arith) fifth_iv under_iv in
      iv_add (k *f ln2_lo) (x -f y) 1076 1076 (X + P + J + 206) (X + P + J + 206) (X + P + J + 1283) (X + P + J + 1283) (omega arith) (omega arith) (omega arith) (omega arith) i j

  cube_iv : Iv (cube_of t) (O + 1) (O + 1)
  cube_iv =
      let i : Iv (t *f t *f t) (Q + 1) (Q + 1) = iv_mul (t *f t) t (Z + 1) (S + 9) Q (Q + 1) q1 (same (Q + 1)) (omega arith) tt_iv t_iv in
      let j : Iv (two *f (t *f t *f t)) (2 * Q + 3) (2 * Q + 3) = iv_mul two (t *f t *f t) 2097152 (Q + 1) (2 * Q + 2) (2 * Q + 3) (twice Q) (omega arith) (omega arith) two_iv i in
      iv_div (two *f (t *f t *f t)) three (2 * Q + 3) 3145728 O (O + 1) (lit< tt) o1 (same (O + 1)) (omega arith) j three_least

  high_iv : Iv (k *f ln2_hi) 781329351 (D + 1)
  unfolding of_bits
  high_iv = iv_mul_plus k 2977044471 (negsuc 31) 1127219200 B 726818 781329350 D 781329351 (D + 1) (lit≤ tt) hD (lit≤ tt) (omega arith) (lit≤ tt) (omega arith) K (lit≤ tt)

  first_iv : Iv (head_of f t) (Af + M + 2) (Bf + M + 2)
  first_iv = iv_sub f (t *f g) Af Bf (M + 1) (M + 1) (Af + M + 2) (Bf + M + 2) (omega arith) (omega arith) (omega arith) (omega arith) I tg_iv

  pub sum_iv : Iv (sum_of k f) 782237696 744488960
  unfolding ln_from
  sum_iv =
      let hi = k *f ln2_hi in
      let he = head_of f t in
      let cu = cube_of t in
      let lo = low_of k f s (tail_of (s *f s)) t in
      let i : Iv (hi +f he) (781329354 + Af + M) (D + Bf + M + 4) = iv_add hi he 781329351 (D + 1) (Af + M + 2) (Bf + M + 2) (781329354 + Af + M) (D + Bf + M + 4) (omega arith) (omega arith) (omega arith) (omega arith) high_iv first_iv in
      let j : Iv (hi +f he +f cu) (781329356 + Af + M + O) (D + Bf + M + O + 6) = iv_add (hi +f he) cu (781329354 + Af + M) (D + Bf + M + 4) (O + 1) (O + 1) (781329356 + Af + M + O) (D + Bf + M + O + 6) (omega arith) (omega arith) (omega arith) (omega arith) i cube_iv in
      let big : ℕ = 2147483648 in
      let a : Iv (lost_of hi he) 2 2 = lost_iv hi he big big (lit≤ tt) (lit≤ tt) (iv_widen hi 781329351 (D + 1) big big (lit≤ tt) (omega arith) high_iv) (iv_widen he (Af + M + 2) (Bf + M + 2) big big (omega arith) (omega arith) first_iv) in
      let b' : Iv (lost_of (hi +f he) cu) 2 2 = lost_iv (hi +f he) cu big big (lit≤ tt) (lit≤ tt) (iv_widen (hi +f he) (781329354 + Af + M) (D + Bf + M + 4) big big (omega arith) (omega arith) i) (iv_widen cu (O + 1) (O + 1) big big (omega arith) (omega arith) cube_iv) in
      let c : Iv (lost_of hi he +f lo) (X + P + J + 1286) (X + P + J + 1286) = iv_add (lost_of hi he) lo 2 2 (X + P + J + 1283) (X + P + J + 1283) (X + P + J + 1286) (X + P + J + 1286) (omega arith) (omega arith) (omega arith) (omega arith) a low_iv in
      let d : Iv (lost_of (hi +f he) cu +f (lost_of hi he +f lo)) (X + P + J + 1289) (X + P + J + 1289) = iv_add (lost_of (hi +f he) cu) (lost_of hi he +f lo) 2 2 (X + P + J + 1286) (X + P + J + 1286) (X + P + J + 1289) (X + P + J + 1289) (omega arith) (omega arith) (omega arith) (omega arith) b' c in
      iv_add (hi +f he +f cu) (lost_of (hi +f he) cu +f (lost_of hi he +f lo)) (781329356 + Af + M + O) (D + Bf + M + O + 6) (X + P + J + 1289) (X + P + J + 1289) 782237696 744488960 (omega arith) (omega arith) (lit≤ tt) (lit≤ tt) j d
