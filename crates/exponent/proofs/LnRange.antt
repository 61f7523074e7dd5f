-- ln of every positive number is finite and lies from -746 to 710: by its bit pattern, the bounds of the steps, and the tests. Assumes nothing.
use Rattle.std.proofs.Common.{◌≡◌, ℕ, ◌+◌, ◌*◌, ◌/◌, ◌^◌, ◌<◌, ◌≤◌, Bool, true, false, cond, not, ◌&&◌, ◌||◌, T, eqb, ltb, ◌⊎◌, ℤ, sym, refl, subst, inl, inr, true≢false, zero-le, lt_of_lt_of_le, lt_of_le_of_lt, le_of_lt, eq-or-lt_of_le, mul-pos, ne_of_lt, le_of_mul-le-mul_right, arith, lit<, lit≤, eqb→eq, ltb→lt, lt→ltb}
use lib.Dec.{not_T}
use lib.Ieee.{Float, nan, inf, fin, up, down, binary64, neg, le, lt, eq, of_bits, to_bits, fits}
use lib.Arith.{le→nltb}
use lib.Ieee.Fits.{and_l, eq→eqb, down_pos, mul-fits}
use lib.Ieee.Exact.{HasValue}
use lib.Ieee.Positive.{first_pos}
use lib.Ieee.Bits.{is_false}
use Rattle.laws.specs.Floats.{◌-f◌, ◌*f◌, num, +0, half, one, finite}
use Rattle.exponent.specs.Steps.{c710, c746}
use Rattle.exponent.specs.Ln.{joined_of, sum_of, normal_of, ln_of, from_bits, mantissa_of, root2, c2m1022, c1023, c1077, c2p54}
use Rattle.laws.proofs.Interval.{Iv}
use Rattle.exponent.proofs.LnBounds.{sum_iv}
use Rattle.exponent.proofs.LnBits.{exponent_iv, digit, digits_value, upper_part, lower_part, root_test, bits_high, bits_low, lifted_low}
use Rattle.exponent.proofs.Tests.{passes_nan, above_no_nan}

-- v is finite and lies from -746 to 710
abbrev pub Between : Float → Type 0
Between v = T (finite v) × T (le (neg c746) v) × T (le v c710)

scaled : (n d k : ℕ) → n * 1048576 ≤ k * 1048576 * d → n * 1 ≤ k * d
scaled n d k h = le_of_mul-le-mul_right {m = n * 1} {n = k * d} {k = 1048576} (omega arith) (lit< tt)

passes : (a b : Bool) → T a → T (a || b)
passes true b t = tt
passes false b t = absurd t

at_most : (a b : ℕ) (q : Bool) → a ≤ b → (a ≡ b → T q) → T (ltb a b || (q && true))
at_most a b q h f = go (eq-or-lt_of_le h)
  where
    both : (x y : Bool) → T y → T (x || (y && true))
    both true y t = tt
    both false true t = tt
    both false false t = t

    go : (a ≡ b) ⊎ (a < b) → T (ltb a b || (q && true))
    go (inl e) = both (ltb a b) q (f e)
    go (inr l) = passes (ltb a b) (q && true) (lt→ltb a b l)

bounded : (v : Float) → Iv v 782237696 744488960 → Between v
unfolding le of_bits neg finite
bounded nan h = absurd h
bounded (inf s) h = absurd h
bounded (fin true m e) h =
    let A = 746 * down e in
    let B = m * up e * 1 in
    (tt, at_most B A (eqb A B) (scaled (m * up e) (down e) 746 h) (λ q. eq→eqb (sym q)), passes (ltb 0 (B + 710 * down e)) _ (lt→ltb 0 (B + 710 * down e) (some B (down e) (down_pos e))))
  where
    some : (x d : ℕ) → 0 < d → 0 < x + 710 * d
    some x d h = omega arith
bounded (fin false m e) h =
    let A = m * up e * 1 in
    let B = 710 * down e in
    (tt, passes (ltb 0 (746 * down e + A)) _ (lt→ltb 0 (746 * down e + A) (some A (down e) (down_pos e))), at_most A B (eqb A B) (scaled (m * up e) (down e) 710 h) (λ q. eq→eqb q))
  where
    some : (x d : ℕ) → 0 < d → 0 < 746 * d + x
    some x d h = omega arith

-- f from -0.293 to 0, and from 0 to 0.4145
joined_lower : (k m : Float) → Iv k 1127219200 1073741824 → Iv (m -f one) 307200 0 → Between (joined_of k m)
unfolding joined_of
joined_lower k m K F =
    bounded (sum_of k (m -f one))
    (sum_iv k (m -f one) 1073741824 744261632 307200 0 307200 1789951 179962 30890 52728 421830 123584 37283 24857 5302 616 5302 3536 K F (lit≤ tt) (lit≤ tt) (lit≤ tt) (lit≤ tt) (lit≤ tt) (lit≤ tt) (lit≤ tt) (lit< tt) (lit≤ tt) (lit≤ tt) (lit≤ tt) (lit≤ tt) (lit≤ tt) (lit≤ tt) (lit≤ tt) (lit≤ tt) (lit≤ tt) (lit≤ tt) (lit≤ tt) (lit≤ tt) (lit≤ tt) (lit≤ tt) (lit≤ tt))

joined_upper : (k m : Float) → Iv k 1127219200 1072693248 → Iv (m -f one) 0 434600 → Between (joined_of k m)
unfolding joined_of
joined_upper k m K F =
    bounded (sum_of k (m -f one))
    (sum_iv k (m -f one) 1072693248 743534814 0 434600 434600 1662551 274104 71658 113613 691657 286670 141804 94537 18733 2175 18733 12490 K F (lit≤ tt) (lit≤ tt) (lit≤ tt) (lit≤ tt) (lit≤ tt) (lit≤ tt) (lit≤ tt) (lit< tt) (lit≤ tt) (lit≤ tt) (lit≤ tt) (lit≤ tt) (lit≤ tt) (lit≤ tt) (lit≤ tt) (lit≤ tt) (lit≤ tt) (lit≤ tt) (lit≤ tt) (lit≤ tt) (lit≤ tt) (lit≤ tt) (lit≤ tt))

either : (b : Bool) (x y : Float) → (T b → Between x) → (T (not b) → Between y) → Between (cond b x y)
either true x y h k = h tt
either false x y h k = k tt

-- ln of y * 2 ^ (1023 - d), by the exponent's field
field_between : (b d : ℕ) (c : Float) → HasValue c false d 1 → d ≤ 1100 → b < 9218868437227405312 → d ≤ b / 4503599627370496 + 1075 → b / 4503599627370496 ≤ d + 1023 → Between (from_bits b c)
field_between b d c C hd hb l h =
    let m = mantissa_of b in
    let q = digit b in
    let M = digits_value b in
    let R = root_test m q M in
    let E = b / 4503599627370496 in
    either (lt root2 m) (joined_of (num (E + 1) -f c) (m *f half)) (joined_of (num E -f c) m)
    (λ t. joined_lower (num (E + 1) -f c) (m *f half) (exponent_iv (E + 1) d 1075 1024 c C (omega arith) (omega arith) (omega arith) (omega arith)) (lower_part m q M (R.0 t) (omega arith)))
    (λ t. joined_upper (num E -f c) m (exponent_iv E d 1075 1023 c C (omega arith) (omega arith) (omega arith) (omega arith)) (upper_part m q M (omega arith) (R.1 t)))

normal_value : HasValue c1023 false 1023 1
unfolding of_bits
normal_value = (refl, refl)

low_value : HasValue c1077 false 1077 1
unfolding of_bits
low_value = (refl, refl)

normal_between : (m : ℕ) (e : ℤ) → T (fits binary64 (fin false m e)) → 0 < m → Between (normal_of (fin false m e) c1023)
unfolding normal_of
normal_between m e t p =
    let b = to_bits binary64 (fin false m e) in
    let h : b < 9218868437227405312 = bits_high m e t p in
    field_between b 1023 c1023 normal_value (lit≤ tt) h (omega arith) (omega arith)

lifted_between : (y : Float) (G : ℕ) → T (fits binary64 y) → HasValue y false G (2 ^ 1074) → 9007199254740992 ≤ G → Between (normal_of y c1077)
unfolding normal_of
lifted_between nan G t h l = absurd h
lifted_between (inf s) G t h l = absurd h
lifted_between (fin true m e) G t h l = absurd (true≢false h.0)
lifted_between (fin false m e) G t h l =
    let b = to_bits binary64 (fin false m e) in
    let p : 0 < m = first_pos m (up e) (first_pos (m * up e) (2 ^ 1074) (subst (λ (i : ℕ). 0 < i) (sym h.1) (mul-pos (lt_of_lt_of_le (lit< tt) l) (down_pos e)))) in
    let x : b < 9218868437227405312 = bits_high m e t p in
    let z : 9007199254740992 ≤ b = bits_low m e G h l in
    field_between b 1077 c1077 low_value (lit≤ tt) x (omega arith) (omega arith)

-- a positive finite value: neither below zero nor zero nor the infinity
positive_tests : (m : ℕ) (e : ℤ) → T (lt +0 (fin false m e)) → (0 < m) × (lt (fin false m e) +0 ≡ false) × (eq (fin false m e) +0 ≡ false) × (eq (fin false m e) (inf false) ≡ false)
unfolding lt eq of_bits
positive_tests m e p =
    let A = m * up e * 1 in
    let B = 0 * down e in
    let h : B < A = ltb→lt B A p in (
      first_pos m (up e) (first_pos (m * up e) 1 (lt_of_le_of_lt zero-le h)),
      is_false (ltb A B) (le→nltb A B (le_of_lt h)),
      is_false (eqb A B && (true || eqb A 0)) (not_T (eqb A B && (true || eqb A 0)) (λ t. ne_of_lt h (sym (eqb→eq A B (and_l (eqb A B) (true || eqb A 0) t))))),
      refl,
    )

-- of a value that is written with no sign
pub range : (m : ℕ) (e : ℤ) → T (fits binary64 (fin false m e)) → T (lt +0 (fin false m e)) → Between (ln_of (fin false m e))
unfolding ln_of
range m e f p =
    let x = fin false m e in
    let t = positive_tests m e p in
    rw (passes_nan x (above_no_nan +0 x p), t.1, t.2, t.3)
    (either (lt x c2m1022) (normal_of (x *f c2p54) c1077) (normal_of x c1023)
    (λ l. let g = lifted_low m e f t.0 l in lifted_between (x *f c2p54) g.0 (mul-fits binary64 x c2p54) g.1 g.2)
    (λ l. normal_between m e f t.0))
