-- Sums of either sign: `Lies x p n w` says that x is finite and that x * 2^1074 differs from p - n by w at most. Differences of whole numbers in
-- place of signs, so that x - (x + y) + y is plainly near 0. Assumes nothing.
use mathlib.Core.Path.{◌≡◌, sym, ap, subst}
use Prim.Native.Nat.{ℕ, ◌+◌, ◌-◌, ◌*◌, ◌/◌, ◌%◌, ◌^◌, ◌≤◌, ◌<◌}
use native.Mathlib.Nat.{le_of_lt, mul-pos, mul-le-mul_right, le_of_mul-le-mul_right, mod-lt, div-add-mod'}
use native.Mathlib.Omega.{arith}
use mathlib.Core.Bool.{Bool, true, false, not, cond}
use lib.Dec.{T, ltb, ltb→lt, nltb→le, lit≤, lit<}
use lib.Pow.{pow_pos}
use lib.Ieee.{Float, nan, inf, fin, binary64, up, down, round, sum, add, sub, neg}
use lib.Ieee.Fits.{down_pos}
use lib.Ieee.Exact.{HasValue}
use Rattle.laws.specs.Floats.{◌+f◌, ◌-f◌}
use Rattle.laws.proofs.Near.{Near, near_cancel}
use Rattle.laws.proofs.Rounded.{rounded}
use Rattle.laws.proofs.Interval.{Iv, iv_add, iv_sub}

abbrev pub U : ℕ
U = 2 ^ 1074

-- a / c, with the sign s, and p - n differ by w at most, in units of 1 / U
abbrev Side : Bool → ℕ → ℕ → ℕ → ℕ → ℕ → ℕ → Type 0
Side false a c p n w U = Near (a * U + n * c) (p * c) (w * c)
Side true a c p n w U = Near (a * U + p * c) (n * c) (w * c)

abbrev pub Lies : Float → ℕ → ℕ → ℕ → Type 0
Lies nan p n w = ⊥
Lies (inf s) p n w = ⊥
Lies (fin s m e) p n w = Side s (m * up e) (down e) p n w U

pub lies_neg : (x : Float) (p n w : ℕ) → Lies x p n w → Lies (neg x) n p w
unfolding neg
lies_neg nan p n w h = h
lies_neg (inf s) p n w h = h
lies_neg (fin true m e) p n w h = h
lies_neg (fin false m e) p n w h = h

-- ---- every finite value lies somewhere
pub record Place (x : Float) : Type 0 where
  pub p : ℕ
  pub n : ℕ
  pub lies : Lies x p n 1

whole_near : (a d : ℕ) → 0 < d → Near (a + 0 * d) (a / d * d) (1 * d)
whole_near a d D = parts a d (a / d * d) (a % d) (mod-lt a D) (div-add-mod' a d)
  where
    parts : (a d q r : ℕ) → r < d → q + r ≡ a → Near (a + 0 * d) q (1 * d)
    parts a d q r h e = omega arith

pub place : (x : Float) (A B : ℕ) → Iv x A B → Place x
place nan A B h = absurd h
place (inf s) A B h = absurd h
place (fin false m e) A B h = record { p = m * up e * U / down e; n = 0; lies = whole_near (m * up e * U) (down e) (down_pos e) }
place (fin true m e) A B h = record { p = 0; n = m * up e * U / down e; lies = whole_near (m * up e * U) (down e) (down_pos e) }

-- ---- a rounded value lies where its fraction does
settle : (G c a p n w r U : ℕ) → 0 < c → Near (G * c) (a * U) (c * r) → Near (a * U + n * c) (p * c) (w * c) → Near (G + n) p (w + r)
settle G c a p n w r U C h k = near_cancel (G + n) p (w + r) c C (omega arith)

carry : (z : Float) (s : Bool) (G p n w : ℕ) → HasValue z s G U → Side s G 1 p n w 1 → Lies z p n w
carry nan s G p n w h k = h
carry (inf t) s G p n w h k = h
carry (fin true m e) true G p n w h k = lifted (m * up e) (down e) G p n w U h.1 k
  where
    lifted : (x d G p n w U : ℕ) → x * U ≡ G * d → Near (G * 1 + p * 1) (n * 1) (w * 1) → Near (x * U + p * d) (n * d) (w * d)
    lifted x d G p n w U e h = omega (arith, mul-le-mul_right d h.0, mul-le-mul_right d h.1)
carry (fin false m e) false G p n w h k = lifted (m * up e) (down e) G p n w U h.1 k
  where
    lifted : (x d G p n w U : ℕ) → x * U ≡ G * d → Near (G * 1 + n * 1) (p * 1) (w * 1) → Near (x * U + n * d) (p * d) (w * d)
    lifted x d G p n w U e h = omega (arith, mul-le-mul_right d h.0, mul-le-mul_right d h.1)
carry (fin true m e) false G p n w h k = absurd (differ h.0)
  where
    differ : true ≡ false → ⊥
    differ q = subst T q tt
carry (fin false m e) true G p n w h k = absurd (differ h.0)
  where
    differ : false ≡ true → ⊥
    differ q = subst T (sym q) tt

ones : (G p n w : ℕ) → Near (G + n) p w → Near (G * 1 + n * 1) (p * 1) (w * 1)
ones G p n w h = omega arith

lies_round : (s : Bool) (a c p n w t r : ℕ) → 0 < c → 2 ^ (t - 53) ≤ 2 * r → 2 ^ t + r ≤ 2 ^ 2098 → a * U < 2 ^ t * c → Side s a c p n w U → Lies (round binary64 s a c) p n (w + r)
lies_round false a c p n w t r C X Y h k =
    let R = rounded false a c t r C X Y h in
    carry (round binary64 false a c) false R.G p n (w + r) R.value (ones R.G p n (w + r) (settle R.G c a p n w r U C R.near k))
lies_round true a c p n w t r C X Y h k =
    let R = rounded true a c t r C X Y h in
    carry (round binary64 true a c) true R.G p n (w + r) R.value (ones R.G n p (w + r) (settle R.G c a n p w r U C R.near k))

-- ---- sums
module _ (a b c p n w q o v X Y t r : ℕ) (C : 0 < c) (D : 2 ^ (t - 53) ≤ 2 * r) (E : 2 ^ t + r ≤ 2 ^ 2098) (Z : (X + Y) * U < 2 ^ t) (A : a ≤ X * c) (B : b ≤ Y * c) where
  fits : (z : ℕ) → z ≤ a + b → z * U < 2 ^ t * c
  fits z h = in_all z U (2 ^ t) Z h
    where
      in_all : (z U S : ℕ) → (X + Y) * U < S → z ≤ a + b → z * U < S * c
      in_all z U S k h =
          let y : z ≤ (X + Y) * c = omega arith in
          let x : (X + Y) * U + 1 ≤ S = omega arith in
          omega (arith, mul-le-mul_right U y, mul-le-mul_right c x)

  less : (x y : ℕ) → x - y ≤ y + x
  less x y = omega arith

  less' : (x y : ℕ) → x - y ≤ x + y
  less' x y = omega arith

  split : (x y : ℕ) → y ≤ x → x ≡ y + (x - y)
  split x y h = omega arith

  nothing : (x y : ℕ) → y ≤ x → x ≤ y → x - y ≡ 0
  nothing x y h k = omega arith

  equal : (x y : ℕ) → y ≤ x → x ≤ y → x ≡ y
  equal x y h k = omega arith

  -- the first has no sign, the second has one
  turned : (U z : ℕ) → b ≡ a + z → Near (a * U + n * c) (p * c) (w * c) → Near (b * U + q * c) (o * c) (v * c) → Near (z * U + (p + q) * c) ((n + o) * c) ((w + v) * c)
  turned U z e h k = omega (arith, ap (λ (i : ℕ). i * U) e)

  kept : (U z : ℕ) → a ≡ b + z → Near (a * U + n * c) (p * c) (w * c) → Near (b * U + q * c) (o * c) (v * c) → Near (z * U + (n + o) * c) ((p + q) * c) ((w + v) * c)
  kept U z e h k = omega (arith, ap (λ (i : ℕ). i * U) e)

  -- the first has one, the second none
  turned' : (U z : ℕ) → b ≡ a + z → Near (a * U + p * c) (n * c) (w * c) → Near (b * U + o * c) (q * c) (v * c) → Near (z * U + (n + o) * c) ((p + q) * c) ((w + v) * c)
  turned' U z e h k = omega (arith, ap (λ (i : ℕ). i * U) e)

  kept' : (U z : ℕ) → a ≡ b + z → Near (a * U + p * c) (n * c) (w * c) → Near (b * U + o * c) (q * c) (v * c) → Near (z * U + (p + q) * c) ((n + o) * c) ((w + v) * c)
  kept' U z e h k = omega (arith, ap (λ (i : ℕ). i * U) e)

  none : (U z : ℕ) → z ≡ 0 → a ≡ b → Near (a * U + p * c) (n * c) (w * c) → Near (b * U + o * c) (q * c) (v * c) → Near (z * U + (n + o) * c) ((p + q) * c) ((w + v) * c)
  none U z e e' h k = omega (arith, ap (λ (i : ℕ). i * U) e, ap (λ (i : ℕ). i * U) e')

  sum_lies : (s s' : Bool) → Side s a c p n w U → Side s' b c q o v U → Lies (sum binary64 s a s' b c) (p + q) (n + o) (w + v + r)
  unfolding sum
  sum_lies false false h k = lies_round false (a + b) c (p + q) (n + o) (w + v) t r C D E (fits (a + b) (same (a + b))) (both U h k)
    where
      same : (x : ℕ) → x ≤ x
      same x = omega arith

      both : (U : ℕ) → Near (a * U + n * c) (p * c) (w * c) → Near (b * U + o * c) (q * c) (v * c) → Near ((a + b) * U + (n + o) * c) ((p + q) * c) ((w + v) * c)
      both U h k = omega arith
  sum_lies true true h k = lies_round true (a + b) c (p + q) (n + o) (w + v) t r C D E (fits (a + b) (same (a + b))) (both U h k)
    where
      same : (x : ℕ) → x ≤ x
      same x = omega arith

      both : (U : ℕ) → Near (a * U + p * c) (n * c) (w * c) → Near (b * U + q * c) (o * c) (v * c) → Near ((a + b) * U + (p + q) * c) ((n + o) * c) ((w + v) * c)
      both U h k = omega arith
  sum_lies false true h k = go (ltb a b) (ltb→lt a b) (nltb→le a b)
    where
      go : (t' : Bool) → (T t' → a < b) → (T (not t') → b ≤ a) → Lies (cond t' (round binary64 true (b - a) c) (round binary64 false (a - b) c)) (p + q) (n + o) (w + v + r)
      go true f g = lies_round true (b - a) c (p + q) (n + o) (w + v) t r C D E (fits (b - a) (less b a)) (turned U (b - a) (split b a (le_of_lt (f tt))) h k)
      go false f g = lies_round false (a - b) c (p + q) (n + o) (w + v) t r C D E (fits (a - b) (less' a b)) (kept U (a - b) (split a b (g tt)) h k)
  sum_lies true false h k = go (ltb a b) (ltb b a) (ltb→lt a b) (nltb→le a b) (ltb→lt b a) (nltb→le b a)
    where
      go : (t' u : Bool) → (T t' → a < b) → (T (not t') → b ≤ a) → (T u → b < a) → (T (not u) → a ≤ b) → Lies (cond t' (round binary64 false (b - a) c) (round binary64 u (a - b) c)) (p + q) (n + o) (w + v + r)
      go true u f g i j = lies_round false (b - a) c (p + q) (n + o) (w + v) t r C D E (fits (b - a) (less b a)) (turned' U (b - a) (split b a (le_of_lt (f tt))) h k)
      go false true f g i j = lies_round true (a - b) c (p + q) (n + o) (w + v) t r C D E (fits (a - b) (less' a b)) (kept' U (a - b) (split a b (g tt)) h k)
      go false false f g i j = lies_round false (a - b) c (p + q) (n + o) (w + v) t r C D E (fits (a - b) (less' a b)) (none U (a - b) (nothing a b (g tt) (j tt)) (equal a b (g tt) (j tt)) h k)

-- the size of x is X at most
abbrev pub Under : Float → ℕ → Type 0
Under nan X = ⊥
Under (inf s) X = ⊥
Under (fin s m e) X = m * up e ≤ X * down e

wide_left : (a d q X : ℕ) → a ≤ X * d → a * q ≤ X * (d * q)
wide_left a d q X h = omega (arith, mul-le-mul_right q h)

wide_right : (a d q X : ℕ) → a ≤ X * d → a * q ≤ X * (q * d)
wide_right a d q X h = omega (arith, mul-le-mul_right q h)

side_left : (s : Bool) (a d q p n w U : ℕ) → Side s a d p n w U → Side s (a * q) (d * q) p n w U
side_left false a d q p n w U h = omega (arith, mul-le-mul_right q h.0, mul-le-mul_right q h.1)
side_left true a d q p n w U h = omega (arith, mul-le-mul_right q h.0, mul-le-mul_right q h.1)

side_right : (s : Bool) (a d q p n w U : ℕ) → Side s a d p n w U → Side s (a * q) (q * d) p n w U
side_right false a d q p n w U h = omega (arith, mul-le-mul_right q h.0, mul-le-mul_right q h.1)
side_right true a d q p n w U h = omega (arith, mul-le-mul_right q h.0, mul-le-mul_right q h.1)

pub lies_add : (x y : Float) (p n w q o v X Y t r : ℕ) → 2 ^ (t - 53) ≤ 2 * r → 2 ^ t + r ≤ 2 ^ 2098 → (X + Y) * U < 2 ^ t → Under x X → Under y Y → Lies x p n w → Lies y q o v
    → Lies (x +f y) (p + q) (n + o) (w + v + r)
unfolding add
lies_add nan y p n w q o v X Y t r D E Z hx hy h k = absurd hx
lies_add (inf s) y p n w q o v X Y t r D E Z hx hy h k = absurd hx
lies_add (fin s m e) nan p n w q o v X Y t r D E Z hx hy h k = absurd hy
lies_add (fin s m e) (inf s') p n w q o v X Y t r D E Z hx hy h k = absurd hy
lies_add (fin s m e) (fin s' m' e') p n w q o v X Y t r D E Z hx hy h k =
    sum_lies (m * up e * down e') (m' * up e' * down e) (down e * down e') p n w q o v X Y t r (mul-pos (down_pos e) (down_pos e')) D E Z
    (wide_left (m * up e) (down e) (down e') X hx) (wide_right (m' * up e') (down e') (down e) Y hy) s s'
    (side_left s (m * up e) (down e) (down e') p n w U h) (side_right s' (m' * up e') (down e') (down e) q o v U k)

under_neg : (x : Float) (X : ℕ) → Under x X → Under (neg x) X
unfolding neg
under_neg nan X h = h
under_neg (inf s) X h = h
under_neg (fin s m e) X h = h

pub lies_sub : (x y : Float) (p n w q o v X Y t r : ℕ) → 2 ^ (t - 53) ≤ 2 * r → 2 ^ t + r ≤ 2 ^ 2098 → (X + Y) * U < 2 ^ t → Under x X → Under y Y → Lies x p n w → Lies y q o v
    → Lies (x -f y) (p + o) (n + q) (w + v + r)
unfolding sub
lies_sub x y p n w q o v X Y t r D E Z hx hy h k = lies_add x (neg y) p n w o q v X Y t r D E Z hx (under_neg y Y hy) h (lies_neg y q o v k)

-- ---- from bounds to places and back
pub iv_under : (x : Float) (A X : ℕ) → A ≤ X * 1048576 → Iv x A A → Under x X
iv_under nan A X l h = h
iv_under (inf s) A X l h = h
iv_under (fin true m e) A X l h = less (m * up e) (down e) h
  where
    less : (x d : ℕ) → x * 1048576 ≤ A * d → x ≤ X * d
    less x d h = omega (arith, mul-le-mul_right d l)
iv_under (fin false m e) A X l h = less (m * up e) (down e) h
  where
    less : (x d : ℕ) → x * 1048576 ≤ A * d → x ≤ X * d
    less x d h = omega (arith, mul-le-mul_right d l)

apart : (x d A p n w U : ℕ) → 0 < d → x * 1048576 ≤ A * d → Near (x * U + n * d) (p * d) (w * d) → Near (p * 1048576) (n * 1048576) (A * U + w * 1048576)
apart x d A p n w U D h k = near_cancel (p * 1048576) (n * 1048576) (A * U + w * 1048576) d D (omega (arith, mul-le-mul_right U h))

swap : (x y z : ℕ) → Near x y z → Near y x z
swap x y z h = omega arith

pub iv_apart : (x : Float) (A p n w : ℕ) → Iv x A A → Lies x p n w → Near (p * 1048576) (n * 1048576) (A * U + w * 1048576)
iv_apart nan A p n w h k = absurd h
iv_apart (inf s) A p n w h k = absurd h
iv_apart (fin false m e) A p n w h k = apart (m * up e) (down e) A p n w U (down_pos e) h k
iv_apart (fin true m e) A p n w h k = swap (n * 1048576) (p * 1048576) (A * U + w * 1048576) (apart (m * up e) (down e) A n p w U (down_pos e) h k)

back : (x d p n w K E U : ℕ) → 0 < U → Near (p * 1048576) (n * 1048576) K → K + w * 1048576 ≤ E * U → Near (x * U + n * d) (p * d) (w * d) → x * 1048576 ≤ E * d
back x d p n w K E U Z h l k = le_of_mul-le-mul_right {m = x * 1048576} {n = E * d} {k = U} (omega (arith, mul-le-mul_right d h.0, mul-le-mul_right d l)) Z

pub lies_iv : (x : Float) (p n w K E : ℕ) → Near (p * 1048576) (n * 1048576) K → K + w * 1048576 ≤ E * U → Lies x p n w → Iv x E E
lies_iv nan p n w K E h l k = k
lies_iv (inf s) p n w K E h l k = k
lies_iv (fin false m e) p n w K E h l k = back (m * up e) (down e) p n w K E U (pow_pos 1074) h l k
lies_iv (fin true m e) p n w K E h l k = back (m * up e) (down e) n p w K E U (pow_pos 1074) (swap (p * 1048576) (n * 1048576) K h) l k

-- ---- what a sum's rounding took away: (x - (x + y)) + y
level : (p n q o : ℕ) → Near ((p + (n + o) + q) * 1048576) ((n + (p + q) + o) * 1048576) 0
level p n q o = omega arith

pub lost_iv : (x y : Float) (A B : ℕ) → A ≤ 274877906944 → B ≤ 274877906944 → Iv x A A → Iv y B B → Iv (x -f (x +f y) +f y) 2 2
lost_iv x y A B hA hB hx hy =
    let P = place x A A hx in
    let Q = place y B B hy in
    let p = P.p in
    let n = P.n in
    let q = Q.p in
    let o = Q.n in
    let r = 2 ^ 1044 in
    let S = A + B + 1 in
    let D = A + S + 1 in
    let is : Iv (x +f y) S S = iv_add x y A A B B S S (omega arith) (omega arith) (omega arith) (omega arith) hx hy in
    let id : Iv (x -f (x +f y)) D D = iv_sub x (x +f y) A A S S D D (omega arith) (omega arith) (omega arith) (omega arith) hx is in
    let ux : Under x 1048576 = iv_under x A 1048576 (omega arith) hx in
    let uy : Under y 1048576 = iv_under y B 1048576 (omega arith) hy in
    let us : Under (x +f y) 1048576 = iv_under (x +f y) S 1048576 (omega arith) is in
    let ud : Under (x -f (x +f y)) 1048576 = iv_under (x -f (x +f y)) D 1048576 (omega arith) id in
    let s : Lies (x +f y) (p + q) (n + o) (1 + 1 + r) = lies_add x y p n 1 q o 1 1048576 1048576 1097 r (lit≤ tt) (lit≤ tt) (lit< tt) ux uy P.lies Q.lies in
    let d : Lies (x -f (x +f y)) (p + (n + o)) (n + (p + q)) (1 + (1 + 1 + r) + r) = lies_sub x (x +f y) p n 1 (p + q) (n + o) (1 + 1 + r) 1048576 1048576 1097 r (lit≤ tt) (lit≤ tt) (lit< tt) ux us P.lies s in
    let z : Lies (x -f (x +f y) +f y) (p + (n + o) + q) (n + (p + q) + o) (1 + (1 + 1 + r) + r + 1 + r) =
    lies_add (x -f (x +f y)) y (p + (n + o)) (n + (p + q)) (1 + (1 + 1 + r) + r) q o 1 1048576 1048576 1097 r (lit≤ tt) (lit≤ tt) (lit< tt) ud uy d Q.lies in
    lies_iv (x -f (x +f y) +f y) (p + (n + o) + q) (n + (p + q) + o) (1 + (1 + 1 + r) + r + 1 + r) 0 2 (level p n q o) (lit≤ tt) z

-- ---- (C + x) - C, x rounded to few digits, and what that leaves of x. C is a whole number, 1.5 * 2 ^ 34 at most
const_near : (x d N U : ℕ) → x * 1 ≡ N * d → Near (x * U + 0 * d) (N * U * d) (0 * d)
const_near x d N U e = omega (arith, ap (λ (i : ℕ). i * U) e)

const_lies : (C : Float) (N : ℕ) → HasValue C false N 1 → Lies C (N * U) 0 0
const_lies nan N h = h
const_lies (inf s) N h = h
const_lies (fin true m e) N h = absurd (subst T h.0 tt)
const_lies (fin false m e) N h = const_near (m * up e) (down e) N U h.1

const_under : (C : Float) (N : ℕ) → HasValue C false N 1 → N ≤ 25769803776 → Under C 25769803776
const_under nan N h l = h
const_under (inf s) N h l = h
const_under (fin s m e) N h l = less (m * up e) (down e) h.1
  where
    less : (x d : ℕ) → x * 1 ≡ N * d → x ≤ 25769803776 * d
    less x d e = omega (arith, mul-le-mul_right d l)

lifted : (N p n A U : ℕ) → 1048576 ≤ U → Near (p * 1048576) (n * 1048576) (A * U + 1 * 1048576) → Near ((N * U + p) * 1048576) ((0 + n) * 1048576) ((N * 1048576 + A + 1) * U)
lifted N p n A U Z h = omega arith

widened : (B w k U : ℕ) → w * 1048576 ≤ k * U → B * U + w * 1048576 ≤ (B + k) * U
widened B w k U h = omega arith

lowered : (N p n A U : ℕ) → 1048576 ≤ U → Near (p * 1048576) (n * 1048576) (A * U + 1 * 1048576) → Near ((N * U + p + 0) * 1048576) ((0 + n + N * U) * 1048576) ((A + 1) * U)
lowered N p n A U Z h = omega arith

emptied : (N p n U : ℕ) → Near ((p + (0 + n + N * U)) * 1048576) ((n + (N * U + p + 0)) * 1048576) (0 * U)
emptied N p n U = omega arith

module _ (C x : Float) (N A : ℕ) (V' : HasValue C false N 1) (L : N ≤ 25769803776) (hA : A ≤ 1048576) (hx : Iv x A A) where
  P : Place x
  P = place x A A hx

  p : ℕ
  p = P.p

  n : ℕ
  n = P.n

  x_lies : Lies x p n 1
  unfolding p n
  x_lies = P.lies

  x_apart : Near (p * 1048576) (n * 1048576) (A * U + 1 * 1048576)
  x_apart = iv_apart x A p n 1 hx x_lies

  x_under : Under x 1
  x_under = iv_under x A 1 hA hx

  abbrev r : ℕ
  r = 2 ^ 1055

  first : Lies (C +f x) (N * U + p) (0 + n) (0 + 1 + r)
  first = lies_add C x (N * U) 0 0 p n 1 25769803776 1 1109 r (lit≤ tt) (lit≤ tt) (lit< tt) (const_under C N V' L) x_under (const_lies C N V') x_lies

  first_under : Under (C +f x) 25769803778
  first_under =
      iv_under (C +f x) (N * 1048576 + A + 1 + 3) 25769803778 (omega arith)
      (lies_iv (C +f x) (N * U + p) (0 + n) (0 + 1 + r) ((N * 1048576 + A + 1) * U) (N * 1048576 + A + 1 + 3) (lifted N p n A U (lit≤ tt) x_apart) (widened (N * 1048576 + A + 1) (0 + 1 + r) 3 U (lit≤ tt)) first)

  second : Lies (C +f x -f C) (N * U + p + 0) (0 + n + N * U) (0 + 1 + r + 0 + 2 * r)
  second = lies_sub (C +f x) C (N * U + p) (0 + n) (0 + 1 + r) (N * U) 0 0 25769803778 25769803776 1110 (2 * r) (lit≤ tt) (lit≤ tt) (lit< tt) first_under (const_under C N V' L) first (const_lies C N V')

  pub head_iv : Iv (C +f x -f C) (A + 8) (A + 8)
  head_iv =
      subst (λ (E : ℕ). Iv (C +f x -f C) E E) (eight A)
      (lies_iv (C +f x -f C) (N * U + p + 0) (0 + n + N * U) (0 + 1 + r + 0 + 2 * r) ((A + 1) * U) (A + 1 + 7) (lowered N p n A U (lit≤ tt) x_apart) (widened (A + 1) (0 + 1 + r + 0 + 2 * r) 7 U (lit≤ tt)) second)
    where
      eight : (A : ℕ) → A + 1 + 7 ≡ A + 8
      eight A = omega arith

  pub rest_iv : Iv (x -f (C +f x -f C)) 16 16
  rest_iv =
      let w = 0 + 1 + r + 0 + 2 * r in
      let u2 : Under (C +f x -f C) 2 = iv_under (C +f x -f C) (A + 8) 2 (omega arith) head_iv in
      lies_iv (x -f (C +f x -f C)) (p + (0 + n + N * U)) (n + (N * U + p + 0)) (1 + w + r) (0 * U) 16 (emptied N p n U) (lit≤ tt)
      (lies_sub x (C +f x -f C) p n 1 (N * U + p + 0) (0 + n + N * U) w 1 2 1109 r (lit≤ tt) (lit≤ tt) (lit< tt) x_under u2 x_lies second)
