-- What ln takes from the bit pattern of y: the exponent k and the digits' part f, by their bounds. Assumes nothing.
use Rattle.std.proofs.Common.{◌≡◌, ℕ, zero, suc, ◌+◌, ◌-◌, ◌*◌, ◌/◌, ◌%◌, ◌^◌, ◌<◌, ◌≤◌, Bool, true, false, not, ◌&&◌, T, eqb, ltb, leb, ℤ, sym, refl, ap, ◌∙◌, subst, true≢false, le_trans, le_of_eq, lt_of_lt_of_le, lt_of_le_of_lt, lt_irrefl, mul_assoc, div-lt_iff_lt-mul, mul-le-mul, lt_of_mul-lt-mul_right, mul-lt-mul_of_pos_right, mul-pos, lt_of_not-le, le-div_iff_mul-le, mul-one, mul_right_comm, not-le_of_lt, le_of_mul-le-mul_right, mul-div_cancel, arith, lit<, lit≤, ltb→lt, leb→le, nltb→le, pow_pos, pow_mono, pow-add}
use native.Mathlib.Nat.{eq_of_mul-eq-mul_right}
use lib.Ieee.{Float, nan, inf, fin, binary64, up, down, size, round, neg, sub, lt, fits, to_bits, of_bits}
use lib.Ieee.Digits.{size-le, size-lt, size_reaches}
use lib.Ieee.Fits.{kept-lt, up_pos, down_pos, and_l, and_r}
use lib.Ieee.Exact.{HasValue, round_exact}
use lib.Ieee.Back.{round_whole}
use Rattle.laws.specs.Floats.{◌-f◌, ◌*f◌, num, half, one}
use Rattle.exponent.specs.Ln.{mantissa_of, root2, c2m1022, c2p54}
use Rattle.laws.proofs.Near.{Near}
use Rattle.laws.proofs.Rounded.{rounded}
use Rattle.laws.proofs.Ops.{mul_value, add_value, sub_value_less, num_value, neg_value}
use Rattle.laws.proofs.Interval.{Iv, iv_value, iv_round}
use Rattle.exponent.proofs.Powers.{bits_is}

-- ---- a difference of whole numbers is exact
one_less : (E d : ℕ) → E * 1 - d * 1 ≡ E - d
one_less E d = omega arith

pub exponent_iv : (E d lo hi : ℕ) (c : Float) → HasValue c false d 1 → E ≤ 3000 → d ≤ 3000 → d ≤ E + lo → E ≤ d + hi → Iv (num E -f c) (lo * 1048576) (hi * 1048576)
unfolding sub
exponent_iv E d lo hi c C hE hd l h = go (ltb E d) (ltb→lt E d) (nltb→le E d)
  where
    W : HasValue (num E) false E 1
    W = num_value E (le_trans hE (lit≤ tt))

    go : (t : Bool) → (T t → E < d) → (T (not t) → d ≤ E) → Iv (num E -f c) (lo * 1048576) (hi * 1048576)
    go true f g =
        let e = sub_value_less (num E) (neg c) E 1 d 1 (lit< tt) (lit< tt) W (neg_value c d 1 C) (omega (arith, f tt)) in
        subst (λ (z : Float). Iv z (lo * 1048576) (hi * 1048576)) (sym (e ∙ ap (λ (n : ℕ). round binary64 true n 1) (one_less d E)))
        (iv_value (round binary64 true (d - E) 1) true (d - E) 1 (lo * 1048576) (hi * 1048576) (lit< tt) (round_whole binary64 true (d - E) (le_trans (omega arith) (lit≤ {m = 3000} tt))) (omega arith))
    go false f g =
        let e = add_value (num E) (neg c) true E 1 d 1 (lit< tt) (lit< tt) W (neg_value c d 1 C) (omega (arith, g tt)) in
        subst (λ (z : Float). Iv z (lo * 1048576) (hi * 1048576)) (sym (e ∙ ap (λ (n : ℕ). round binary64 false n 1) (one_less E d)))
        (iv_value (round binary64 false (E - d) 1) false (E - d) 1 (lo * 1048576) (hi * 1048576) (lit< tt) (round_whole binary64 false (E - d) (le_trans (omega arith) (lit≤ {m = 3000} tt))) (omega arith))

-- ---- the digits: m is q / 2^52, with q from 2^52 to 2^53
abbrev pub digit : ℕ → ℕ
digit b = 4503599627370496 + b % 4503599627370496

fields : (b : ℕ) → ((4607182418800017408 + b % 4503599627370496) % 4503599627370496 ≡ b % 4503599627370496) × ((4607182418800017408 + b % 4503599627370496) / 4503599627370496 - 1 ≡ 1022)
fields b = omega arith

above : (b : ℕ) → (4503599627370496 ≤ 4607182418800017408 + b % 4503599627370496) × (4607182418800017408 + b % 4503599627370496 < 9218868437227405312)
above b = omega arith

-- from q 2^1022 / 2^1074 to q / 2^52
reduce : (x : Float) (q : ℕ) → HasValue x false (q * 2 ^ 1022) (2 ^ 1074) → HasValue x false q 4503599627370496
reduce nan q h = absurd h
reduce (inf s) q h = absurd h
reduce (fin s m e) q h = (h.0, cancel (m * up e) q (down e) 4503599627370496 (2 ^ 1022) (pow_pos 1022) h.1)
  where
    cancel : (n q d p w : ℕ) → 0 < w → n * (p * w) ≡ q * w * d → n * p ≡ q * d
    cancel n q d p w W h = eq_of_mul-eq-mul_right w W (n * p) (q * d) (omega arith)

pub digits_value : (b : ℕ) → HasValue (mantissa_of b) false (digit b) 4503599627370496
digits_value b =
    let B = 4607182418800017408 + b % 4503599627370496 in
    reduce (mantissa_of b) (digit b)
    (subst (λ (n : ℕ). HasValue (mantissa_of b) false ((4503599627370496 + n) * 2 ^ 1022) (2 ^ 1074)) (fields b).0
    (subst (λ (n : ℕ). HasValue (mantissa_of b) false ((4503599627370496 + B % 4503599627370496) * 2 ^ n) (2 ^ 1074)) (fields b).1
    (bits_is B (above b).0 (above b).1)))

one_value : HasValue one false 1 1
unfolding of_bits
one_value = (refl, refl)

half_value : HasValue half false 1 2
unfolding of_bits
half_value = (refl, refl)

-- m - 1, where m is at most the root of 2
first : (q : ℕ) → 4503599627370496 ≤ q → q ≤ 6369051672525773 → (1 * 4503599627370496 ≤ q * 1) × ((q * 1 - 1 * 4503599627370496) * 1048576 ≤ 434599 * 4503599627370496)
first q h k = omega arith

pub upper_part : (m : Float) (q : ℕ) → HasValue m false q 4503599627370496 → 4503599627370496 ≤ q → q ≤ 6369051672525773 → Iv (m -f one) 0 434600
unfolding sub
upper_part m q M h k =
    let b = first q h k in
    subst (λ (z : Float). Iv z 0 434600) (sym (add_value m (neg one) true q 4503599627370496 1 1 (lit< tt) (lit< tt) M (neg_value one 1 1 one_value) b.0))
    (iv_round false (q * 1 - 1 * 4503599627370496) 4503599627370496 434599 0 434600 (lit< tt) b.1 (lit≤ tt) (lit≤ tt))

-- m / 2 - 1, where m is more
halved : (m : Float) (q : ℕ) → HasValue m false q 4503599627370496 → q < 9007199254740992 → HasValue (m *f half) false q 9007199254740992
halved m q M h =
    subst (λ (z : Float). HasValue z false q 9007199254740992) (sym (mul_value m half false false q 4503599627370496 1 2 (lit< tt) (lit< tt) M half_value ∙ ap (λ (n : ℕ). round binary64 false n 9007199254740992) (mul-one q)))
    (round_exact binary64 false q 9007199254740992 q 1021 (lit< tt) h (lt_of_lt_of_le (mul-lt-mul_of_pos_right h (pow_pos 1021)) (lit≤ tt)) (sym (mul_assoc q (2 ^ 1021) 9007199254740992)))

second : (q : ℕ) → 6369051672525773 < q → q < 9007199254740992 → (q * 1 < 1 * 9007199254740992) × ((1 * 9007199254740992 - q * 1) * 1048576 ≤ 307199 * 9007199254740992)
second q h k = omega arith

pub lower_part : (m : Float) (q : ℕ) → HasValue m false q 4503599627370496 → 6369051672525773 < q → q < 9007199254740992 → Iv (m *f half -f one) 307200 0
unfolding sub
lower_part m q M h k =
    let b = second q h k in
    subst (λ (z : Float). Iv z 307200 0) (sym (sub_value_less (m *f half) (neg one) q 9007199254740992 1 1 (lit< tt) (lit< tt) (halved m q M k) (neg_value one 1 1 one_value) b.0))
    (iv_round true (1 * 9007199254740992 - q * 1) 9007199254740992 307199 307200 0 (lit< tt) b.1 (lit≤ tt) (lit≤ tt))

-- what the test against the root of 2 says
pub root_test : (m : Float) (q : ℕ) → HasValue m false q 4503599627370496 → (T (lt root2 m) → 6369051672525773 < q) × (T (not (lt root2 m)) → q ≤ 6369051672525773)
unfolding lt of_bits
root_test nan q h = absurd h
root_test (inf s) q h = absurd h
root_test (fin true m e) q h = absurd (true≢false h.0)
root_test (fin false m e) q h =
    let A = 6369051672525773 * down e in
    let B = m * up e * 4503599627370496 in (
      (λ t. lt_of_mul-lt-mul_right (down e) (lt_of_lt_of_le (ltb→lt A B t) (le_of_eq h.1))),
      (λ t. le_of_mul-le-mul_right (le_trans (le_of_eq (sym h.1)) (nltb→le A B t)) (down_pos e)),
    )

-- ---- the exponent's field
fits_says : (s : Bool) (m : ℕ) (e : ℤ) → T (fits binary64 (fin s m e)) → 0 < m → (down e ≤ 2 ^ 1074) × (m * up e < 2 ^ 1024 * down e)
unfolding fits
fits_says s zero e t p = absurd (lt_irrefl 0 p)
fits_says s (suc m) e t p =
    let a = eqb (suc m % 2) 1 in
    let b = ltb (suc m) (2 ^ 53) in
    let c = leb (down e) (2 ^ 1074) in
    let d = ltb (suc m * up e) (2 ^ 1024 * down e) in
    (leb→le (down e) (2 ^ 1074) (and_r (a && b) c (and_l (a && b && c) d t)), ltb→lt (suc m * up e) (2 ^ 1024 * down e) (and_r (a && b && c) d t))

-- the pattern of n units: k digits are dropped
pattern : ℕ → ℕ
pattern n = (size n - 53) * 4503599627370496 + n / 2 ^ (size n - 53)

pattern_is : (m : ℕ) (e : ℤ) → to_bits binary64 (fin false m e) ≡ pattern (m * up e * 2 ^ 1074 / down e)
unfolding to_bits pattern
pattern_is m e = zero_add' ((size (m * up e * 2 ^ 1074 / down e) - 53) * 4503599627370496) (m * up e * 2 ^ 1074 / down e / 2 ^ (size (m * up e * 2 ^ 1074 / down e) - 53))
  where
    zero_add' : (x y : ℕ) → 0 + x + y ≡ x + y
    zero_add' x y = omega arith

pattern_high : (n : ℕ) → n < 2 ^ 2098 → pattern n < 9218868437227405312
unfolding pattern
pattern_high n h = sum (size n) (n / 2 ^ (size n - 53)) (size-le n 2098 h) (kept-lt 53 n)
  where
    sum : (z r : ℕ) → z ≤ 2098 → r < 9007199254740992 → (z - 53) * 4503599627370496 + r < 9218868437227405312
    sum z r h k = omega arith

pattern_low : (n : ℕ) → 9007199254740992 ≤ n → 9007199254740992 ≤ pattern n
unfolding pattern
pattern_low n h =
    let z = size n in
    let l : 53 < z = lt_of_not-le (λ (g : z ≤ 53). not-le_of_lt (lt_of_lt_of_le (size-lt n) (pow_mono g)) h) in
    let r : 4503599627370496 ≤ n / 2 ^ (z - 53) = (le-div_iff_mul-le (pow_pos (z - 53))).1 (subst (λ (i : ℕ). i ≤ n) (pow-add 2 52 (z - 53)) (size_reaches n (52 + (z - 53)) (last z l))) in
    sum z (n / 2 ^ (z - 53)) l r
  where
    last : (z : ℕ) → 53 < z → 52 + (z - 53) < z
    last z h = omega arith

    sum : (z r : ℕ) → 53 < z → 4503599627370496 ≤ r → 9007199254740992 ≤ (z - 53) * 4503599627370496 + r
    sum z r h k = omega arith

pub bits_high : (m : ℕ) (e : ℤ) → T (fits binary64 (fin false m e)) → 0 < m → to_bits binary64 (fin false m e) < 9218868437227405312
bits_high m e t p =
    subst (λ (b : ℕ). b < 9218868437227405312) (sym (pattern_is m e))
    (pattern_high (m * up e * 2 ^ 1074 / down e) ((div-lt_iff_lt-mul (down_pos e)).1 (shift (m * up e) (down e) (2 ^ 1074) (2 ^ 1024) (2 ^ 2098) (pow_pos 1074) refl (fits_says false m e t p).1)))
  where
    shift : (x d U T' R : ℕ) → 0 < U → T' * U ≡ R → x < T' * d → x * U < R * d
    shift x d U T' R Z q h = lt_of_lt_of_le (mul-lt-mul_of_pos_right h Z) (le_of_eq (mul_right_comm T' d U ∙ ap (λ (i : ℕ). i * d) q))

pub bits_low : (m : ℕ) (e : ℤ) (G : ℕ) → HasValue (fin false m e) false G (2 ^ 1074) → 9007199254740992 ≤ G → 9007199254740992 ≤ to_bits binary64 (fin false m e)
bits_low m e G h k =
    subst (λ (b : ℕ). 9007199254740992 ≤ b) (sym (pattern_is m e))
    (subst (λ (n : ℕ). 9007199254740992 ≤ pattern n) (sym (ap (λ (x : ℕ). x / down e) h.1 ∙ mul-div_cancel G (down_pos e))) (pattern_low G k))

-- ---- a subnormal x times 2^54
lifted_value : HasValue c2p54 false 18014398509481984 1
unfolding of_bits
lifted_value = (refl, refl)

small_product : (x d L U S : ℕ) → 0 < S → 18014398509481984 * U ≡ L * S → x * L < 1 * d → x * 18014398509481984 * U < S * (d * 1)
small_product x d L U S Z q h = lt_of_le_of_lt (le_of_eq (mul_assoc x 18014398509481984 U ∙ ap (λ (i : ℕ). x * i) q ∙ sym (mul_assoc x L S))) (lt_of_lt_of_le (mul-lt-mul_of_pos_right h Z) (omega arith))

grown : (x d G U : ℕ) → 0 < x → 0 < d → d ≤ U → Near (G * (d * 1)) (x * 18014398509481984 * U) (d * 1 * 4503599627370496) → 9007199254740992 ≤ G
grown x d G U X D l n = le_of_mul-le-mul_right {m = 9007199254740992} {n = G} {k = d} (omega (arith, mul-le-mul X l)) D

below_least : (m : ℕ) (e : ℤ) → T (lt (fin false m e) c2m1022) → m * up e * 2 ^ 1022 < 1 * down e
unfolding lt of_bits
below_least m e t = ltb→lt (m * up e * 2 ^ 1022) (1 * down e) t

pub lifted_low : (m : ℕ) (e : ℤ) → T (fits binary64 (fin false m e)) → 0 < m → T (lt (fin false m e) c2m1022)
    → (G : ℕ) × HasValue (fin false m e *f c2p54) false G (2 ^ 1074) × (9007199254740992 ≤ G)
lifted_low m e t p l =
    let x = m * up e in
    let d = down e in
    let R = rounded false (x * 18014398509481984) (d * 1) 106 4503599627370496 (subst (λ (i : ℕ). 0 < i) (sym (mul-one d)) (down_pos e)) (lit≤ tt) (lit≤ tt) (small_product x d (2 ^ 1022) (2 ^ 1074) (2 ^ 106) (pow_pos 106) refl (below_least m e l)) in
    let q = mul_value (fin false m e) c2p54 false false x d 18014398509481984 1 (down_pos e) (lit< tt) (refl, refl) lifted_value in
    (R.G, subst (λ (z : Float). HasValue z false R.G (2 ^ 1074)) (sym q) R.value, grown x d R.G (2 ^ 1074) (mul-pos p (up_pos e)) (down_pos e) (fits_says false m e t p).0 R.near)
