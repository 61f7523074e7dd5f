-- Bounds that go through the operations: `Iv x A B` says that x is finite and lies from -A / 2^20 to B / 2^20. Each operation adds one 2^-20 for its rounding. Assumes nothing.
use mathlib.Core.Path.{◌≡◌, refl, sym, ap, subst}
use Prim.Native.Nat.{ℕ, ◌+◌, ◌-◌, ◌*◌, ◌^◌, ◌≤◌, ◌<◌}
use native.Mathlib.Nat.{le_trans, le_of_eq, le_of_lt, mul-pos, mul-le-mul_right, mul-le-mul, le_of_mul-le-mul_right}
use native.Mathlib.Omega.{arith}
use mathlib.Core.Bool.{Bool, true, false, not, ◌&&◌, ◌||◌, cond}
use lib.IntN.{ℤ}
use lib.Dec.{T, ltb, eqb, eqb→eq, ltb→lt, nltb→le, not_T, lit≤}
use lib.Pow.{pow_pos}
use lib.Ieee.{Float, nan, inf, fin, binary64, up, down, unlike, round, sum, add, sub, mul, div, neg, lt, eq, le}
use lib.Ieee.Fits.{up_pos, down_pos, and_l}
use lib.Ieee.Bits.{cond_no}
use lib.Ieee.Exact.{HasValue}
use Rattle.laws.specs.Floats.{◌+f◌, ◌-f◌, ◌*f◌, ◌/f◌}
use Rattle.laws.proofs.Rounded.{rounded}
use Rattle.laws.proofs.Near.{Near}
use Rattle.laws.proofs.Ops.{apply, add_value}

abbrev pub lim : Bool → ℕ → ℕ → ℕ
lim true A B = A
lim false A B = B

abbrev pub Iv : Float → ℕ → ℕ → Type 0
Iv nan A B = ⊥
Iv (inf s) A B = ⊥
Iv (fin s m e) A B = m * up e * 1048576 ≤ lim s A B * down e

-- ---- a value G / U
cancel_value : (n d G L U : ℕ) → 0 < U → n * U ≡ G * d → G * 1048576 ≤ L * U → n * 1048576 ≤ L * d
cancel_value n d G L U Z e h = le_of_mul-le-mul_right {m = n * 1048576} {n = L * d} {k = U} (omega (arith, ap (λ (z : ℕ). z * 1048576) e, mul-le-mul_right d h)) Z

pub iv_value : (x : Float) (s : Bool) (G U A B : ℕ) → 0 < U → HasValue x s G U → G * 1048576 ≤ lim s A B * U → Iv x A B
iv_value nan s G U A B Z h k = h
iv_value (inf t) s G U A B Z h k = h
iv_value (fin t m e) s G U A B Z h k = cancel_value (m * up e) (down e) G (lim t A B) U Z h.1 (subst (λ (z : Bool). G * 1048576 ≤ lim z A B * U) (sym h.0) k)

-- ---- rounding. U is 2 ^ 1074 and w is 2 ^ 1040
fits_in : (a c L U : ℕ) → 0 < c → 0 < U → a * 1048576 ≤ L * c → L + 1 ≤ 1099511627776 → a * U < 1048576 * U * c
fits_in a c L U C Z h l = omega (arith, mul-le-mul_right U h, mul-le-mul_right (c * U) l, mul-pos C Z)

bound_round : (a c L G w U : ℕ) → 0 < c → 1048576 * w ≤ U → a * 1048576 ≤ L * c → Near (G * c) (a * U) (c * w) → G * 1048576 ≤ (L + 1) * U
bound_round a c L G w U C W h n = le_of_mul-le-mul_right {m = G * 1048576} {n = (L + 1) * U} {k = c} (omega (arith, mul-le-mul_right U h, mul-le-mul_right c W)) C

pub iv_round : (s : Bool) (a c L A B : ℕ) → 0 < c → a * 1048576 ≤ L * c → L + 1 ≤ 1099511627776 → L + 1 ≤ lim s A B → Iv (round binary64 s a c) A B
iv_round s a c L A B C h l k =
    let R = rounded s a c 1094 (2 ^ 1040) C (lit≤ tt) (lit≤ tt) (fits_in a c L (2 ^ 1074) C (pow_pos 1074) h l) in
    iv_value (round binary64 s a c) s R.G (2 ^ 1074) A B (pow_pos 1074) R.value
    (le_trans (bound_round a c L R.G (2 ^ 1040) (2 ^ 1074) C (lit≤ tt) h R.near) (mul-le-mul_right (2 ^ 1074) k))

-- ---- sums
pub iv_neg : (x : Float) (A B : ℕ) → Iv x A B → Iv (neg x) B A
unfolding neg
iv_neg nan A B h = h
iv_neg (inf s) A B h = h
iv_neg (fin true m e) A B h = h
iv_neg (fin false m e) A B h = h

module _ (a b c A B C D E F : ℕ) (Z : 0 < c) (P : A + C + 1 ≤ E) (Q : B + D + 1 ≤ F) (L : E ≤ 1099511627776) (M : F ≤ 1099511627776) where
  both : (X Y : ℕ) → a * 1048576 ≤ X * c → b * 1048576 ≤ Y * c → (a + b) * 1048576 ≤ (X + Y) * c
  both X Y h k = omega arith

  left : (X Y : ℕ) → a * 1048576 ≤ X * c → (a - b) * 1048576 ≤ (X + Y) * c
  left X Y h = le_trans (mul-le-mul_right 1048576 (less a b)) (omega arith)
    where
      less : (x y : ℕ) → x - y ≤ x
      less x y = omega arith

  right : (X Y : ℕ) → b * 1048576 ≤ Y * c → (b - a) * 1048576 ≤ (X + Y) * c
  right X Y h = le_trans (mul-le-mul_right 1048576 (less b a)) (omega arith)
    where
      less : (x y : ℕ) → x - y ≤ x
      less x y = omega arith

  high : B + D + 1 ≤ 1099511627776
  high = omega arith

  deep : A + C + 1 ≤ 1099511627776
  deep = omega arith

  none : (X : ℕ) → b * 1048576 ≤ X * c → a ≤ b → (a - b) * 1048576 ≤ (B + D) * c
  none X h l = omega arith

  sum_iv : (s t : Bool) → a * 1048576 ≤ lim s A B * c → b * 1048576 ≤ lim t C D * c → Iv (sum binary64 s a t b c) E F
  unfolding sum
  sum_iv false false h k = iv_round false (a + b) c (B + D) E F Z (both B D h k) high Q
  sum_iv true true h k = iv_round true (a + b) c (A + C) E F Z (both A C h k) deep P
  sum_iv false true h k = go (ltb a b)
    where
      go : (t : Bool) → Iv (cond t (round binary64 true (b - a) c) (round binary64 false (a - b) c)) E F
      go true = iv_round true (b - a) c (A + C) E F Z (right A C k) deep P
      go false = iv_round false (a - b) c (B + D) E F Z (left B D h) high Q
  sum_iv true false h k = go (ltb a b) (ltb b a) (nltb→le b a)
    where
      go : (t u : Bool) → (T (not u) → a ≤ b) → Iv (cond t (round binary64 false (b - a) c) (round binary64 u (a - b) c)) E F
      go true u l = iv_round false (b - a) c (B + D) E F Z (right B D k) high Q
      go false true l = iv_round true (a - b) c (A + C) E F Z (left A C h) deep P
      go false false l = iv_round false (a - b) c (B + D) E F Z (none D k (l tt)) high Q

spread_left : (n d q L : ℕ) → n * 1048576 ≤ L * d → n * q * 1048576 ≤ L * (d * q)
spread_left n d q L h = omega (arith, mul-le-mul_right q h)

spread_right : (n d q L : ℕ) → n * 1048576 ≤ L * d → n * q * 1048576 ≤ L * (q * d)
spread_right n d q L h = omega (arith, mul-le-mul_right q h)

pub iv_add : (x y : Float) (A B C D E F : ℕ) → A + C + 1 ≤ E → B + D + 1 ≤ F → E ≤ 1099511627776 → F ≤ 1099511627776 → Iv x A B → Iv y C D → Iv (x +f y) E F
unfolding add
iv_add nan y A B C D E F P Q L M h k = absurd h
iv_add (inf s) y A B C D E F P Q L M h k = absurd h
iv_add (fin s m e) nan A B C D E F P Q L M h k = absurd k
iv_add (fin s m e) (inf t) A B C D E F P Q L M h k = absurd k
iv_add (fin s m e) (fin t n d) A B C D E F P Q L M h k =
    sum_iv (m * up e * down d) (n * up d * down e) (down e * down d) A B C D E F (mul-pos (down_pos e) (down_pos d)) P Q L M s t
    (spread_left (m * up e) (down e) (down d) (lim s A B) h) (spread_right (n * up d) (down d) (down e) (lim t C D) k)

pub iv_sub : (x y : Float) (A B C D E F : ℕ) → A + D + 1 ≤ E → B + C + 1 ≤ F → E ≤ 1099511627776 → F ≤ 1099511627776 → Iv x A B → Iv y C D → Iv (x -f y) E F
unfolding sub
iv_sub x y A B C D E F P Q L M h k = iv_add x (neg y) A B D C E F P Q L M h (iv_neg y C D k)

-- ---- products: each factor by its size; and by the sign of the first where the second has none
same : (s : Bool) (A : ℕ) → lim s A A ≡ A
same true A = refl
same false A = refl

product : (n d q p A B C : ℕ) → n * 1048576 ≤ A * d → q * 1048576 ≤ B * p → A * B ≤ C * 1048576 → n * q * 1048576 ≤ C * (d * p)
product n d q p A B C h k l = omega (arith, mul-le-mul h k, mul-le-mul_right (d * p) l)

pub iv_mul : (x y : Float) (A B C E : ℕ) → A * B ≤ C * 1048576 → C + 1 ≤ E → E ≤ 1099511627776 → Iv x A A → Iv y B B → Iv (x *f y) E E
unfolding mul
iv_mul nan y A B C E P Q L h k = absurd h
iv_mul (inf s) y A B C E P Q L h k = absurd h
iv_mul (fin s m e) nan A B C E P Q L h k = absurd k
iv_mul (fin s m e) (inf t) A B C E P Q L h k = absurd k
iv_mul (fin s m e) (fin t n d) A B C E P Q L h k =
    iv_round (unlike s t) (m * up e * (n * up d)) (down e * down d) C E E (mul-pos (down_pos e) (down_pos d))
    (product (m * up e) (down e) (n * up d) (down d) A B C (subst (λ (z : ℕ). m * up e * 1048576 ≤ z * down e) (same s A) h) (subst (λ (z : ℕ). n * up d * 1048576 ≤ z * down d) (same t B) k) P)
    (le_trans Q L) (subst (λ (z : ℕ). C + 1 ≤ z) (sym (same (unlike s t) E)) Q)

unlike_plus : (s : Bool) → unlike s false ≡ s
unlike_plus false = refl
unlike_plus true = refl

-- the second factor is H / 2^20 at most, and has no sign
pub iv_mul_plus : (x : Float) (n : ℕ) (d : ℤ) (A B H C D E F : ℕ) → A * H ≤ C * 1048576 → B * H ≤ D * 1048576 → C + 1 ≤ E → D + 1 ≤ F → E ≤ 1099511627776 → F ≤ 1099511627776
    → Iv x A B → n * up d * 1048576 ≤ H * down d → Iv (x *f fin false n d) E F
unfolding mul
iv_mul_plus nan n d A B H C D E F P Q R S L M h k = absurd h
iv_mul_plus (inf s) n d A B H C D E F P Q R S L M h k = absurd h
iv_mul_plus (fin s m e) n d A B H C D E F P Q R S L M h k =
    let g = fine s in
    subst (λ (z : Bool). Iv (round binary64 z (m * up e * (n * up d)) (down e * down d)) E F) (sym (unlike_plus s))
    (iv_round s (m * up e * (n * up d)) (down e * down d) (lim s C D) E F (mul-pos (down_pos e) (down_pos d))
    (product (m * up e) (down e) (n * up d) (down d) (lim s A B) H (lim s C D) h k g.0) g.1 g.2)
  where
    fine : (s : Bool) → (lim s A B * H ≤ lim s C D * 1048576) × (lim s C D + 1 ≤ 1099511627776) × (lim s C D + 1 ≤ lim s E F)
    fine true = (P, le_trans R L, R)
    fine false = (Q, le_trans S M, S)

-- ---- quotients
abbrev pub Least : Float → ℕ → Type 0
Least nan B = ⊥
Least (inf s) B = ⊥
Least (fin s m e) B = B * down e ≤ m * up e * 1048576

-- of a value G / U
pub least_value : (x : Float) (s : Bool) (G U B : ℕ) → 0 < U → HasValue x s G U → B * U ≤ G * 1048576 → Least x B
least_value nan s G U B Z h k = h
least_value (inf t) s G U B Z h k = h
least_value (fin t m e) s G U B Z h k = cancel (m * up e) (down e) h.1
  where
    cancel : (n d : ℕ) → n * U ≡ G * d → B * d ≤ n * 1048576
    cancel n d e = le_of_mul-le-mul_right {m = B * d} {n = n * 1048576} {k = U} (omega (arith, ap (λ (z : ℕ). z * 1048576) e, mul-le-mul_right d k)) Z

quotient : (n d q p A B C : ℕ) → n * 1048576 ≤ A * d → B * p ≤ q * 1048576 → A * 1048576 ≤ C * B → n * p * 1048576 ≤ C * (q * d)
quotient n d q p A B C h k l =
    le_of_mul-le-mul_right {m = n * p * 1048576} {n = C * (q * d)} {k = 1048576}
    (omega (arith, mul-le-mul_right (p * 1048576) h, mul-le-mul_right (d * p) l, mul-le-mul_right (C * d) k)) (lit≤ tt)

not_zero : (n u p B : ℕ) → 0 < B → 0 < p → B * p ≤ n * u * 1048576 → n ≡ 0 → ⊥
not_zero n u p B Z Y h e = omega (arith, mul-pos Z Y, ap (λ (z : ℕ). z * u) e)

pub iv_div : (x y : Float) (A B C E : ℕ) → 0 < B → A * 1048576 ≤ C * B → C + 1 ≤ E → E ≤ 1099511627776 → Iv x A A → Least y B → Iv (x /f y) E E
unfolding div
iv_div nan y A B C E Z P Q L h k = absurd h
iv_div (inf s) y A B C E Z P Q L h k = absurd h
iv_div (fin s m e) nan A B C E Z P Q L h k = absurd k
iv_div (fin s m e) (inf t) A B C E Z P Q L h k = absurd k
iv_div (fin s m e) (fin t n d) A B C E Z P Q L h k =
    let no = not_zero n (up d) (down d) B Z (down_pos d) k in
    subst (λ (z : Float). Iv z E E)
    (sym (cond_no (eqb n 0) (cond (eqb m 0) nan (inf (unlike s t))) (round binary64 (unlike s t) (m * up e * down d) (n * up d * down e)) (not_T (eqb n 0) (λ (z : T (eqb n 0)). no (eqb→eq n 0 z)))))
    (iv_round (unlike s t) (m * up e * down d) (n * up d * down e) C E E (mul-pos (mul-pos (some n no) (up_pos d)) (down_pos e))
    (quotient (m * up e) (down e) (n * up d) (down d) A B C (subst (λ (z : ℕ). m * up e * 1048576 ≤ z * down e) (same s A) h) k P)
    (le_trans Q L) (subst (λ (z : ℕ). C + 1 ≤ z) (sym (same (unlike s t) E)) Q))
  where
    some : (n : ℕ) → (n ≡ 0 → ⊥) → 0 < n
    some n h = omega arith

pub iv_widen : (x : Float) (A B C D : ℕ) → A ≤ C → B ≤ D → Iv x A B → Iv x C D
iv_widen nan A B C D P Q h = h
iv_widen (inf s) A B C D P Q h = h
iv_widen (fin true m e) A B C D P Q h = le_trans h (mul-le-mul_right (down e) P)
iv_widen (fin false m e) A B C D P Q h = le_trans h (mul-le-mul_right (down e) Q)

-- ---- what lies between -g and g is no larger than g
either : (x y : Bool) (P : Type 0) → T (x || y) → (T x → P) → (T y → P) → P
either true y P t f g = f tt
either false y P t f g = g t

at_most : (x y : ℕ) (r : Bool) → T (ltb x y || (eqb x y && r)) → x ≤ y
at_most x y r t = either (ltb x y) (eqb x y && r) (x ≤ y) t (λ h. le_of_lt (ltb→lt x y h)) (λ h. le_of_eq (eqb→eq x y (and_l (eqb x y) r h)))

at_least : (x y : ℕ) (r : Bool) → T (ltb x y || (eqb y x && r)) → x ≤ y
at_least x y r t = either (ltb x y) (eqb y x && r) (x ≤ y) t (λ h. le_of_lt (ltb→lt x y h)) (λ h. le_of_eq (sym (eqb→eq y x (and_l (eqb y x) r h))))

through : (p q n d A : ℕ) → 0 < d → n * 1048576 ≤ A * d → p * d ≤ n * q → p * 1048576 ≤ A * q
through p q n d A D e h = le_of_mul-le-mul_right {m = p * 1048576} {n = A * q} {k = d} (omega (arith, mul-le-mul_right 1048576 h, mul-le-mul_right q e)) D

pub iv_between : (x g : Float) (A : ℕ) → Iv g A A → T (le x g) → T (le (neg g) x) → Iv x A A
unfolding le lt eq neg
iv_between nan g A v p q = absurd p
iv_between (inf s) nan A v p q = absurd v
iv_between (inf s) (inf t) A v p q = absurd v
iv_between (inf true) (fin t n d) A v p q = absurd q
iv_between (inf false) (fin t n d) A v p q = absurd p
iv_between (fin s m e) nan A v p q = absurd v
iv_between (fin s m e) (inf t) A v p q = absurd v
iv_between (fin false m e) (fin false n d) A v p q = through (m * up e) (down e) (n * up d) (down d) A (down_pos d) v (at_most (m * up e * down d) (n * up d * down e) _ p)
iv_between (fin true m e) (fin false n d) A v p q = through (m * up e) (down e) (n * up d) (down d) A (down_pos d) v (at_least (m * up e * down d) (n * up d * down e) _ q)
iv_between (fin false m e) (fin true n d) A v p q = through (m * up e) (down e) (n * up d) (down d) A (down_pos d) v (le_of_eq (eqb→eq (m * up e * down d) (n * up d * down e) (and_l (eqb (m * up e * down d) (n * up d * down e)) _ p)))
iv_between (fin true m e) (fin true n d) A v p q = through (m * up e) (down e) (n * up d) (down d) A (down_pos d) v (le_of_eq (sym (eqb→eq (n * up d * down e) (m * up e * down d) (and_l (eqb (n * up d * down e) (m * up e * down d)) _ q))))

-- ---- `Above x B`: x is finite, has no sign and is B / 2^20 at least
abbrev pub Above : Float → ℕ → Type 0
Above nan B = ⊥
Above (inf s) B = ⊥
Above (fin s m e) B = (s ≡ false) × (B * down e ≤ m * up e * 1048576)

pub above_least : (x : Float) (B : ℕ) → Above x B → Least x B
above_least nan B h = h
above_least (inf s) B h = h
above_least (fin s m e) B h = h.1

above_value : (x : Float) (G U B : ℕ) → 0 < U → HasValue x false G U → B * U ≤ G * 1048576 → Above x B
above_value nan G U B Z h k = h
above_value (inf s) G U B Z h k = h
above_value (fin s m e) G U B Z h k = (h.0, least_value (fin s m e) false G U B Z h k)

-- N + x, for a whole number N and an x of size F at most
within_size : (s : Bool) (F x c : ℕ) → x * 1048576 ≤ lim s F F * c → x * 1048576 ≤ F * c
within_size true F x c h = h
within_size false F x c h = h

sum_sizes : (s : Bool) (N F R x c : ℕ) → F + R + 1 ≤ N * 1048576 → N ≤ 1000 → x * 1048576 ≤ F * c → (x * 1 ≤ N * c) × (apply s (N * c) (x * 1) ≤ 2000 * c) × ((R + 1) * c ≤ apply s (N * c) (x * 1) * 1048576)
sum_sizes true N F R x c q l h = omega (arith, mul-le-mul_right c q, mul-le-mul_right c l)
sum_sizes false N F R x c q l h = omega (arith, mul-le-mul_right c q, mul-le-mul_right c l)

sum_fits : (a c U : ℕ) → 0 < c → 0 < U → a ≤ 2000 * c → a * U < 1048576 * U * (1 * c)
sum_fits a c U C Z h = omega (arith, mul-le-mul_right U h, mul-pos C Z)

sum_least : (a c G w R U : ℕ) → 0 < c → 1048576 * w ≤ U → (R + 1) * c ≤ a * 1048576 → Near (G * (1 * c)) (a * U) (1 * c * w) → R * U ≤ G * 1048576
sum_least a c G w R U C W h n = le_of_mul-le-mul_right {m = R * U} {n = G * 1048576} {k = c} (omega (arith, mul-le-mul_right U h, mul-le-mul_right c W)) C

pub above_sum : (n x : Float) (N F R : ℕ) → HasValue n false N 1 → N ≤ 1000 → F + R + 1 ≤ N * 1048576 → Iv x F F → Above (n +f x) R
above_sum n nan N F R v l q h = absurd h
above_sum n (inf s) N F R v l q h = absurd h
above_sum n (fin s m e) N F R v l q h =
    let x = m * up e in
    let c = down e in
    let a = apply s (N * c) (x * 1) in
    let b = sum_sizes s N F R x c q l (within_size s F x c h) in
    let Q = rounded false a (1 * c) 1094 (2 ^ 1040) (one_pos c (down_pos e)) (lit≤ tt) (lit≤ tt) (sum_fits a c (2 ^ 1074) (down_pos e) (pow_pos 1074) b.1) in
    subst (λ (z : Float). Above z R) (sym (add_value n (fin s m e) s N 1 x c (lit≤ tt) (down_pos e) v (refl, refl) b.0))
    (above_value (round binary64 false a (1 * c)) Q.G (2 ^ 1074) R (pow_pos 1074) Q.value (sum_least a c Q.G (2 ^ 1040) R (2 ^ 1074) (down_pos e) (lit≤ tt) b.2 Q.near))
  where
    one_pos : (c : ℕ) → 0 < c → 0 < 1 * c
    one_pos c h = omega arith
