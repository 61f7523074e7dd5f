-- A root that is known to be from q to q + 1, both times 2 ^ e, at half the format's unit or a quarter of it, rounded to the format. Assumes nothing.
use mathlib.Core.Path.{◌≡◌, refl, sym, ap, ◌∙◌, subst}
use mathlib.Core.Bool.{Bool, true, false}
use mathlib.Core.Logic.{◌⊎◌, inl, inr}
use Prim.Native.Nat.{ℕ, zero, suc, ◌+◌, ◌-◌, ◌*◌, ◌/◌, ◌%◌, ◌^◌, ◌≤◌, ◌<◌, compare, Ordering, min}
use native.Mathlib.Nat.{eq-or-lt_of_le, le_of_lt, min-eq_left, min-eq_right, mul-le-mul, mul-le-mul_right, mul-lt-mul_of_pos_right, mul-pos, lt_of_lt_of_le, lt_of_le_of_lt, lt_of_mul-lt-mul_right, le_trans, div-lt_iff_lt-mul, le-div_iff_mul-le}
use native.Mathlib.Omega.{arith}
use borrow.Author.Tests.{lt-ltb, le-ltb, lt-leb, le-leb}
use lib.Dec.{leb, ltb}
use mir.Val.{bool_byte}
use lib.Pow.{pow_pos, pow-add}
use lib.Ieee.{inf, binary64, size, nearest, units, of_bits}
use lib.Ieee.Digits.{size-le}
use lib.Ieee.Nearest.{nearest-ge}
use Rattle.laws.proofs.Choices.{false_true}
use Rattle.laws.proofs.Comparing.{lt_or_le, cmp_lt, cmp_eq, cmp_gt, size_gt}
use Rattle.laws.proofs.Patterns.{Held, of_held, inf_pattern}
use Rattle.roots.specs.Root.{sq, isqrt, root_units}
use Rattle.roots.specs.Nearest.{IsFloorRoot}
use Rattle.roots.specs.Inner.{Between, Floor}
use Rattle.roots.proofs.Squares.{sq_mono, sq_lt_back, isqrt_is, isqrt_of}

held_more : (w v k : ℕ) → w ≤ v → Held w k → Held v k
held_more w v k h (inl l) = inl (omega arith)
held_more w v k h (inr z) = inr z

pub square_pow : (k : ℕ) → 2 ^ (k * 2) ≡ sq (2 ^ k)
square_pow k = ap (λ (x : ℕ). 2 ^ x) (let e : k * 2 ≡ k + k = omega arith in e) ∙ pow-add 2 k k

too_large : (w : ℕ) → 2 ^ 52 ≤ w → units binary64 false w 2046 ≡ inf false
unfolding units
too_large w h = rw (le-ltb (w * 2 ^ 2046) (2 ^ 2098) (mul-le-mul_right (2 ^ 2046) h))

too_large_at : (w k : ℕ) → k ≡ 2046 → 2 ^ 52 ≤ w → units binary64 false w k ≡ inf false
too_large_at w k z h = ap (λ (x : ℕ). units binary64 false w x) z ∙ too_large w h

-- ---- numbers 0 and 1

-- r is 1 where a is above b, else 0
abbrev IsAbove : ℕ → ℕ → ℕ → Type 0
IsAbove a b r = ((b < a) × (r ≡ 1)) ⊎ ((a ≤ b) × (r ≡ 0))

-- r is 1 where b is so, else 0
abbrev IsBit : Bool → ℕ → Type 0
IsBit b r = ((b ≡ true) × (r ≡ 1)) ⊎ ((b ≡ false) × (r ≡ 0))

-- r is the least of a and b
abbrev IsLeast : ℕ → ℕ → ℕ → Type 0
IsLeast a b r = ((a ≤ b) × (r ≡ a)) ⊎ ((b < a) × (r ≡ b))

above : (a b : ℕ) → IsAbove a b (bool_byte (ltb b a))
above a b = elim (lt_or_le b a) [ inl l ↦ rw (lt-ltb b a l) (inl (l, refl)) | inr g ↦ rw (le-ltb b a g) (inr (g, refl)) ]

bit : (b : Bool) → IsBit b (bool_byte b)
bit true = inl (refl, refl)
bit false = inr (refl, refl)

least : {a b r : ℕ} → r ≡ min a b → IsLeast a b r
least {a} {b} e = elim (lt_or_le b a) [ inl l ↦ inr (l, e ∙ min-eq_right (le_of_lt l)) | inr g ↦ inl (g, e ∙ min-eq_left g) ]

one_most : (a b r : ℕ) → IsAbove a b r → r ≤ 1
one_most a b r (inl v) = omega arith
one_most a b r (inr v) = omega arith

-- what is above a square, told from the number
pub gap : (n p q : ℕ) → sq q * p ≤ n → n < sq (suc q) * p → (more : Bool) × Between n p q more
gap n p q l h = elim (eq-or-lt_of_le l) [
  | inl e ↦ (false, record { low = l; high = h; exact = λ z. e; above = λ z. false_true z })
  | inr m ↦ (true, record { low = l; high = h; exact = λ z. false_true (sym z); above = λ z. m })
]

-- ---- `root_units` by what decides it

-- how many digits are dropped, of an n with 2 (52 + k) or 2 (52 + k) + 1 digits after its first
pub dropped : (n k : ℕ) → 2 ^ (104 + k * 2) ≤ n → n < 2 ^ (106 + k * 2) → suc (size n) / 2 - 53 ≡ k
dropped n k l h = omega (arith, size_gt n (104 + k * 2) l, size-le n (106 + k * 2) h)

pub by_order : (n k q : ℕ) (o : Ordering) → suc (size n) / 2 - 53 ≡ k → IsFloorRoot (n / sq (2 ^ k)) q → compare (4 * n) (sq ((2 * q + 1) * 2 ^ k)) ≡ o
    → root_units n ≡ units binary64 false (nearest q o) k
unfolding root_units
by_order n k q o e Q c = rw (e, isqrt_of Q, c)

module _ (n e u k q w : ℕ) (more : Bool) (K : 2 ^ k ≡ 2 ^ e * u) (B : Between (4 * n) (sq (2 ^ e)) q more) (lo : 2 * u * w ≤ q) (hi : suc q ≤ 2 * u * suc w) (H : Held w k) (W : w < 2 ^ 53) where
  unit : (x : ℕ) → sq (x * u) * sq (2 ^ e) ≡ sq (x * 2 ^ k)
  unit x = rw K (omega arith)

  at_least : sq w * sq (2 ^ k) ≤ n
  at_least =
      let a : sq (2 * u * w) * sq (2 ^ e) ≤ sq q * sq (2 ^ e) = mul-le-mul_right (sq (2 ^ e)) (sq_mono lo) in
      omega (arith, unit (2 * w), B.low)

  below : n < sq (suc w) * sq (2 ^ k)
  below =
      let a : sq (suc q) * sq (2 ^ e) ≤ sq (2 * u * suc w) * sq (2 ^ e) = mul-le-mul_right (sq (2 ^ e)) (sq_mono hi) in
      omega (arith, unit (2 * suc w), B.high)

  two_pos : 0 < sq (2 ^ k)
  two_pos = mul-pos (pow_pos k) (pow_pos k)

  floor : IsFloorRoot (n / sq (2 ^ k)) w
  floor = record { low = (le-div_iff_mul-le two_pos).1 at_least; high = (div-lt_iff_lt-mul two_pos).1 below }

  drops : suc (size n) / 2 - 53 ≡ k
  drops = go H
    where
      top : n < 2 ^ 106 * sq (2 ^ k)
      top = lt_of_lt_of_le below (mul-le-mul_right (sq (2 ^ k)) (let l : sq (suc w) ≤ 2 ^ 53 * 2 ^ 53 = mul-le-mul W W in l))

      go : Held w k → suc (size n) / 2 - 53 ≡ k
      go (inl l) =
          dropped n k
          (subst (λ (x : ℕ). x ≤ n) (sym (pow-add 2 104 (k * 2) ∙ ap (λ (x : ℕ). 2 ^ 104 * x) (square_pow k))) (le_trans (mul-le-mul_right (sq (2 ^ k)) (let s : 2 ^ 52 * 2 ^ 52 ≤ sq w = mul-le-mul l l in s)) at_least))
          (subst (λ (x : ℕ). n < x) (sym (pow-add 2 106 (k * 2) ∙ ap (λ (x : ℕ). 2 ^ 106 * x) (square_pow k))) top)
      go (inr z) =
          let t : n < 2 ^ 106 * sq (2 ^ 0) = subst (λ (x : ℕ). n < 2 ^ 106 * sq (2 ^ x)) z top in
          omega (arith, size-le n 106 t)

  as_units : (o : Ordering) → compare (4 * n) (sq ((2 * w + 1) * 2 ^ k)) ≡ o → root_units n ≡ units binary64 false (nearest w o) k
  as_units o c = by_order n k w o drops floor c

  pub to_lower : k ≤ 2045 → q < (2 * w + 1) * u → of_bits binary64 (k * 2 ^ 52 + w) ≡ root_units n
  to_lower j h =
      let a : sq (suc q) * sq (2 ^ e) ≤ sq ((2 * w + 1) * u) * sq (2 ^ e) = mul-le-mul_right (sq (2 ^ e)) (sq_mono h) in
      of_held w k H (omega arith) j ∙ sym (as_units Ordering.lt (cmp_lt _ _ (omega (arith, unit (2 * w + 1), B.high))))

  to_even : k ≤ 2045 → q ≡ (2 * w + 1) * u → more ≡ false → of_bits binary64 (k * 2 ^ 52 + w + w % 2) ≡ root_units n
  to_even j h z =
      let a : sq ((2 * w + 1) * u) * sq (2 ^ e) ≡ 4 * n = subst (λ (x : ℕ). sq x * sq (2 ^ e) ≡ 4 * n) h (B.exact z) in
      ap (λ (x : ℕ). of_bits binary64 x) (let s : k * 2 ^ 52 + w + w % 2 ≡ k * 2 ^ 52 + (w + w % 2) = omega arith in s)
      ∙ of_held (w + w % 2) k (held_more w (w + w % 2) k (omega arith) H) (omega arith) j
      ∙ sym (as_units Ordering.eq (cmp_eq _ _ (sym a ∙ unit (2 * w + 1))))

  pub up_by : k ≤ 2045 → sq ((2 * w + 1) * u) * sq (2 ^ e) < 4 * n → of_bits binary64 (k * 2 ^ 52 + w + 1) ≡ root_units n
  up_by j h =
      ap (λ (x : ℕ). of_bits binary64 x) (let s : k * 2 ^ 52 + w + 1 ≡ k * 2 ^ 52 + suc w = omega arith in s)
      ∙ of_held (suc w) k (held_more w (suc w) k (omega arith) H) W j
      ∙ sym (as_units Ordering.gt (cmp_gt _ _ (subst (λ (x : ℕ). x < 4 * n) (unit (2 * w + 1)) h)))

  to_upper : k ≤ 2045 → (2 * w + 1) * u ≤ q → more ≡ true → of_bits binary64 (k * 2 ^ 52 + w + 1) ≡ root_units n
  to_upper j h z = up_by j (lt_of_le_of_lt (mul-le-mul_right (sq (2 ^ e)) (sq_mono h)) (B.above z))

  to_upper_far : k ≤ 2045 → (2 * w + 1) * u < q → of_bits binary64 (k * 2 ^ 52 + w + 1) ≡ root_units n
  to_upper_far j h =
      let a : sq (suc ((2 * w + 1) * u)) * sq (2 ^ e) ≤ sq q * sq (2 ^ e) = mul-le-mul_right (sq (2 ^ e)) (sq_mono h) in
      let p : 0 < sq (2 ^ e) = mul-pos (pow_pos e) (pow_pos e) in
      let b : sq ((2 * w + 1) * u) < sq (suc ((2 * w + 1) * u)) = omega arith in
      up_by j (lt_of_lt_of_le (mul-lt-mul_of_pos_right b p) (le_trans a B.low))

  to_infinity : k ≡ 2046 → of_bits binary64 (2047 * 2 ^ 52) ≡ root_units n
  to_infinity z = inf_pattern ∙ sym (as_units _ refl ∙ too_large_at (nearest w (compare (4 * n) (sq ((2 * w + 1) * 2 ^ k)))) k z (large H))
    where
      large : Held w k → 2 ^ 52 ≤ nearest w (compare (4 * n) (sq ((2 * w + 1) * 2 ^ k)))
      large (inl l) = le_trans l (nearest-ge w (compare (4 * n) (sq ((2 * w + 1) * 2 ^ k))))
      large (inr y) = absurd (omega arith)

  -- what is dropped, twice, with 1 for more and 1 for an odd w, is above 2u: then it goes up
  rounded : (z up : ℕ) → IsBit more z → IsAbove (2 * (q - w * (2 * u)) + z + w % 2) (2 * u) up → k ≤ 2045 → of_bits binary64 (k * 2 ^ 52 + w + up) ≡ root_units n
  rounded z up Z U j = elim (lt_or_le q ((2 * w + 1) * u)) [
    | inl l ↦ elim Z [
      | inl s ↦ elim U [ inl v ↦ absurd (omega arith) | inr v ↦ same up 0 v.1 (down l) ]
      | inr s ↦ elim U [ inl v ↦ absurd (omega arith) | inr v ↦ same up 0 v.1 (down l) ]
    ]
    | inr g ↦ elim Z [
      | inl s ↦ elim U [ inl v ↦ same up 1 v.1 (to_upper j g s.0) | inr v ↦ absurd (omega arith) ]
      | inr s ↦ elim (eq-or-lt_of_le g) [
        | inl e ↦ elim U [ inl v ↦ same up (w % 2) (omega arith) (to_even j (sym e) s.0) | inr v ↦ same up (w % 2) (omega arith) (to_even j (sym e) s.0) ]
        | inr m ↦ elim U [ inl v ↦ same up 1 v.1 (to_upper_far j m) | inr v ↦ absurd (omega arith) ]
      ]
    ]
  ]
    where
      same : (a b : ℕ) → a ≡ b → of_bits binary64 (k * 2 ^ 52 + w + b) ≡ root_units n → of_bits binary64 (k * 2 ^ 52 + w + a) ≡ root_units n
      same a b e h = ap (λ (x : ℕ). of_bits binary64 (k * 2 ^ 52 + w + x)) e ∙ h

      down : q < (2 * w + 1) * u → of_bits binary64 (k * 2 ^ 52 + w + 0) ≡ root_units n
      down l = ap (λ (x : ℕ). of_bits binary64 x) (let s : k * 2 ^ 52 + w + 0 ≡ k * 2 ^ 52 + w = omega arith in s) ∙ to_lower j l

  -- and past the largest it is infinity's pattern or more
  pub kept_below : (z up r : ℕ) → IsBit more z → IsAbove (2 * (q - w * (2 * u)) + z + w % 2) (2 * u) up → IsLeast (k * 2 ^ 52 + w + up) (2047 * 2 ^ 52) r → k ≤ 2046
      → of_bits binary64 r ≡ root_units n
  kept_below z up r Z U L j = elim (lt_or_le k 2046) [
    | inl l ↦
        let m : up ≤ 1 = one_most _ _ up U in
        elim L [
          | inl v ↦ ap (λ (x : ℕ). of_bits binary64 x) v.1 ∙ rounded z up Z U (omega arith)
          | inr v ↦ absurd (omega arith)
        ]
    | inr g ↦
        let e : k ≡ 2046 = omega arith in
        ap (λ (x : ℕ). of_bits binary64 x) (top e L) ∙ to_infinity e
  ]
    where
      full : Held w k → k ≡ 2046 → 2 ^ 52 ≤ w
      full (inl l) e = l
      full (inr y) e = absurd (omega arith)

      top : k ≡ 2046 → IsLeast (k * 2 ^ 52 + w + up) (2047 * 2 ^ 52) r → r ≡ 2047 * 2 ^ 52
      top e (inl v) = let f = full H e in omega arith
      top e (inr v) = v.1

-- ---- half of a root of 54 digits, or a quarter of one of 55

-- a says which
abbrev Which : ℕ → ℕ → Type 0
Which q a = IsAbove q 18014398509481983 a

which : (q : ℕ) → Which q (bool_byte (leb 18014398509481984 q))
which q = elim (lt_or_le q 18014398509481984) [ inl l ↦ rw (lt-leb 18014398509481984 q l) (inr (omega arith, refl)) | inr g ↦ rw (le-leb 18014398509481984 q g) (inl (omega arith, refl)) ]

held_half : (q k : ℕ) → (2 ^ 53 ≤ q) ⊎ (k ≡ 0) → Held (q / 2) k
held_half q k (inl l) = inl (omega arith)
held_half q k (inr z) = inr z

placed_by : (q e a z up r : ℕ) (more : Bool) → q < 2 ^ 55 → e ≤ 2045 → (2 ^ 53 ≤ q) ⊎ (e ≡ 0) → Which q a → IsBit more z
    → IsAbove (2 * (q - q / 2 ^ (a + 1) * (2 * (a + 1))) + z + q / 2 ^ (a + 1) % 2) (2 * (a + 1)) up
    → IsLeast ((e + (a + 1) - 1) * 2 ^ 52 + q / 2 ^ (a + 1) + up) (2047 * 2 ^ 52) r
    → (n : ℕ) → Between (4 * n) (sq (2 ^ e)) q more → of_bits binary64 r ≡ root_units n
placed_by q e a z up r more Q E H (inr v) Z U L n B =
    let U' : IsAbove (2 * (q - q / 2 * (2 * 1)) + z + q / 2 % 2) (2 * 1) up = rw v.1 at U in
    let L' : IsLeast ((e + 1 - 1) * 2 ^ 52 + q / 2 + up) (2047 * 2 ^ 52) r = rw v.1 at L in
    let L'' : IsLeast (e * 2 ^ 52 + q / 2 + up) (2047 * 2 ^ 52) r = subst (λ (x : ℕ). IsLeast (x * 2 ^ 52 + q / 2 + up) (2047 * 2 ^ 52) r) (let s : e + 1 - 1 ≡ e = omega arith in s) L' in
    kept_below n e 1 e q (q / 2) more (omega arith) B (omega arith) (omega arith) (held_half q e H) (omega arith) z up r Z U' L'' (omega arith)
placed_by q e a z up r more Q E H (inl v) Z U L n B =
    let U' : IsAbove (2 * (q - q / 4 * (2 * 2)) + z + q / 4 % 2) (2 * 2) up = rw v.1 at U in
    let L' : IsLeast ((e + 2 - 1) * 2 ^ 52 + q / 4 + up) (2047 * 2 ^ 52) r = rw v.1 at L in
    let L'' : IsLeast ((e + 1) * 2 ^ 52 + q / 4 + up) (2047 * 2 ^ 52) r = subst (λ (x : ℕ). IsLeast (x * 2 ^ 52 + q / 4 + up) (2047 * 2 ^ 52) r) (let s : e + 2 - 1 ≡ e + 1 = omega arith in s) L' in
    kept_below n e 2 (e + 1) q (q / 4) more (pow-add 2 e 1) B (omega arith) (omega arith) (inl (omega arith)) (omega arith) z up r Z U' L'' (omega arith)

-- as code has it: u is half the weight of what is dropped
pub placed : (q e u r : ℕ) (more : Bool) → u ≡ bool_byte (leb 18014398509481984 q) + 1 → q < 2 ^ 55 → e ≤ 2045 → (2 ^ 53 ≤ q) ⊎ (e ≡ 0)
    → r ≡ min ((e + u - 1) * 2 ^ 52 + q / 2 ^ u + bool_byte (ltb (2 * u) (2 * (q - q / 2 ^ u * (2 * u)) + bool_byte more + q / 2 ^ u % 2))) (2047 * 2 ^ 52)
    → (n : ℕ) → Between (4 * n) (sq (2 ^ e)) q more → of_bits binary64 r ≡ root_units n
placed q e u r more U Q E H R =
    let R' = rw U at R in
    placed_by q e _ _ _ r more Q E H (which q) (bit more) (above _ _) (least R')

-- ---- a value with both middles around the root is the nearest: no whole root has to be known

module _ (n e u k v : ℕ) (K : 2 ^ k ≡ 2 ^ e * u) (lo : sq ((2 * v + 1) * u) * sq (2 ^ e) < 4 * n) (hi : 4 * n < sq ((2 * suc v + 1) * u) * sq (2 ^ e)) where
  abbrev p : ℕ
  p = sq (2 ^ e)

  p_pos : 0 < p
  p_pos = mul-pos (pow_pos e) (pow_pos e)

  abbrev q : ℕ
  q = isqrt (4 * n / p)

  low : sq q * p ≤ 4 * n
  low = (le-div_iff_mul-le p_pos).0 (isqrt_is (4 * n / p)).low

  high : 4 * n < sq (suc q) * p
  high = (div-lt_iff_lt-mul p_pos).0 (isqrt_is (4 * n / p)).high

  gapped : (more : Bool) × Between (4 * n) p q more
  gapped = gap (4 * n) p q low high

  less : (a b : ℕ) → sq a * p < sq b * p → a < b
  less a b h = sq_lt_back a b (lt_of_mul-lt-mul_right p h)

  pub around : 2 ^ 52 ≤ v → suc v < 2 ^ 53 → k ≤ 2045 → of_bits binary64 (k * 2 ^ 52 + suc v) ≡ root_units n
  around l w j = elim (lt_or_le (4 * n) (sq (2 * u * suc v) * p)) [
    | inl below ↦
        let a : (2 * v + 1) * u < suc q = less ((2 * v + 1) * u) (suc q) (omega (arith, high)) in
        let b : q < 2 * u * suc v = less q (2 * u * suc v) (omega (arith, low)) in
        ap (λ (x : ℕ). of_bits binary64 x) (let s : k * 2 ^ 52 + suc v ≡ k * 2 ^ 52 + v + 1 = omega arith in s)
        ∙ up_by n e u k q v gapped.0 K gapped.1 (omega arith) b (inl l) (omega arith) j lo
    | inr above ↦
        let a : 2 * u * suc v < suc q = less (2 * u * suc v) (suc q) (omega (arith, high)) in
        let b : q < (2 * suc v + 1) * u = less q ((2 * suc v + 1) * u) (omega (arith, low)) in
        to_lower n e u k q (suc v) gapped.0 K gapped.1 (omega arith) (omega arith) (inl (omega arith)) w j b
  ]

-- the same of a number that is t times the square of 2 ^ e, and less than one such square more
pub near_around : (n e u k v t : ℕ) → 2 ^ k ≡ 2 ^ e * u → sq ((2 * v + 1) * u) < 4 * t → 4 * t + 4 ≤ sq ((2 * suc v + 1) * u) → Floor n (sq (2 ^ e)) t
    → 2 ^ 52 ≤ v → suc v < 2 ^ 53 → k ≤ 2045 → of_bits binary64 (k * 2 ^ 52 + suc v) ≡ root_units n
near_around n e u k v t K lo hi F l w j =
    let p = sq (2 ^ e) in
    let a : sq ((2 * v + 1) * u) * p < 4 * t * p = mul-lt-mul_of_pos_right lo (mul-pos (pow_pos e) (pow_pos e)) in
    let b : (4 * t + 4) * p ≤ sq ((2 * suc v + 1) * u) * p = mul-le-mul_right p hi in
    around n e u k v K (omega (arith, F)) (omega (arith, F)) l w j

-- by the pattern c, which is above that of 2 ^ 52 * 2 ^ e: patterns count by 2 ^ e at first, then by twice that
module _ (n c e t : ℕ) (F : Floor n (sq (2 ^ e)) t) where
  near_one : (e + 1) * 2 ^ 52 < c → c - (e + 1) * 2 ^ 52 < 2 ^ 52 → e ≤ 2000
      → sq (c - (e + 1) * 2 ^ 52 + 2 ^ 52) < t + (c - (e + 1) * 2 ^ 52 + 4503599627370495) → t < sq (c - (e + 1) * 2 ^ 52 + 2 ^ 52) + (c - (e + 1) * 2 ^ 52 + 4503599627370495)
      → of_bits binary64 c ≡ root_units n
  near_one l s j a b = go (c - (e + 1) * 2 ^ 52) refl a b
    where
      go : (x : ℕ) → c - (e + 1) * 2 ^ 52 ≡ x → sq (x + 2 ^ 52) < t + (x + 4503599627370495) → t < sq (x + 2 ^ 52) + (x + 4503599627370495) → of_bits binary64 c ≡ root_units n
      go x h a b =
          ap (λ (y : ℕ). of_bits binary64 y) (let g : c ≡ e * 2 ^ 52 + suc (x + 4503599627370495) = omega arith in g)
          ∙ near_around n e 1 e (x + 4503599627370495) t (omega arith) (omega arith) (omega arith) F (omega arith) (omega arith) (omega arith)

  near_two : (e + 2) * 2 ^ 52 < c → c - (e + 2) * 2 ^ 52 + 2 ^ 52 < 2 ^ 53 → e ≤ 2000
      → sq (2 * (c - (e + 2) * 2 ^ 52 + 2 ^ 52)) < t + (4 * (c - (e + 2) * 2 ^ 52 + 2 ^ 52) - 1) → t < sq (2 * (c - (e + 2) * 2 ^ 52 + 2 ^ 52)) + (4 * (c - (e + 2) * 2 ^ 52 + 2 ^ 52) - 1)
      → of_bits binary64 c ≡ root_units n
  near_two l s j a b = go (c - (e + 2) * 2 ^ 52) refl a b
    where
      go : (x : ℕ) → c - (e + 2) * 2 ^ 52 ≡ x → sq (2 * (x + 2 ^ 52)) < t + (4 * (x + 2 ^ 52) - 1) → t < sq (2 * (x + 2 ^ 52)) + (4 * (x + 2 ^ 52) - 1) → of_bits binary64 c ≡ root_units n
      go x h a b =
          ap (λ (y : ℕ). of_bits binary64 y) (let g : c ≡ (e + 1) * 2 ^ 52 + suc (x + 4503599627370495) = omega arith in g)
          ∙ near_around n e 2 (e + 1) (x + 4503599627370495) t (pow-add 2 e 1) (omega arith) (omega arith) F (omega arith) (omega arith) (omega arith)

  pub near_by : (by : ℕ) → 1 ≤ by → by ≤ 2 → (e + by) * 2 ^ 52 < c → c - (e + by) * 2 ^ 52 + 2 ^ 52 < 2 ^ 53 → e ≤ 2000
      → sq (by * (c - (e + by) * 2 ^ 52 + 2 ^ 52)) < t + (by * by * (c - (e + by) * 2 ^ 52 + 2 ^ 52) - 1) → t < sq (by * (c - (e + by) * 2 ^ 52 + 2 ^ 52)) + (by * by * (c - (e + by) * 2 ^ 52 + 2 ^ 52) - 1)
      → of_bits binary64 c ≡ root_units n
  near_by zero o w l s j a b = absurd (omega arith)
  near_by (suc zero) o w l s j a b = near_one l (omega arith) j (omega arith) (omega arith)
  near_by (suc (suc zero)) o w l s j a b = near_two l s j a b
  near_by (suc (suc (suc m))) o w l s j a b = absurd (omega arith)
