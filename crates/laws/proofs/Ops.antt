-- Products and sums of finite values, by any fractions that the operands equal: what `round` is handed. Assumes nothing.
use mathlib.Core.Path.{◌≡◌, refl, sym, ap, ◌∙◌}
use Prim.Native.Nat.{ℕ, ◌+◌, ◌-◌, ◌*◌, ◌^◌, ◌≤◌, ◌<◌}
use native.Mathlib.Nat.{not-le_of_lt, lt_of_not-le, mul-pos, mul_comm, mul_assoc, mul_left_comm, mul-mul-mul_comm, add-mul, mul-sub}
use mathlib.Core.Bool.{Bool, true, false, not, cond}
use lib.Dec.{T, ltb, ltb→lt, lt→ltb, not_T}
use lib.Ieee.{Float, nan, inf, fin, binary64, up, down, unlike, round, sum, add, mul, neg, of_int}
use lib.Ieee.Fits.{down_pos}
use lib.Ieee.Bits.{cond_no, is_true}
use lib.Ieee.Exact.{HasValue}
use lib.Ieee.Order.{transfer}
use lib.Ieee.Back.{round_whole}
use lib.Ieee.Scale.{round_same}
use Rattle.laws.specs.Floats.{◌+f◌, ◌*f◌, num}

-- a whole number, and an opposite
pub num_value : (k : ℕ) → k ≤ 2 ^ 53 → HasValue (num k) false k 1
unfolding of_int
num_value k h = round_whole binary64 false k h

pub neg_value : (x : Float) (a c : ℕ) → HasValue x false a c → HasValue (neg x) true a c
unfolding neg
neg_value nan a c h = absurd h
neg_value (inf s) a c h = absurd h
neg_value (fin s m e) a c h = (ap not h.0, h.1)

-- ---- products
signs : {s s' t t' : Bool} → s ≡ s' → t ≡ t' → (a b : ℕ) → round binary64 (unlike s t) a b ≡ round binary64 (unlike s' t') a b
signs p q a b = λ i. round binary64 (unlike (p i) (q i)) a b

pub mul_value : (x y : Float) (s t : Bool) (a c b d : ℕ) → 0 < c → 0 < d → HasValue x s a c → HasValue y t b d → x *f y ≡ round binary64 (unlike s t) (a * b) (c * d)
unfolding mul
mul_value nan y s t a c b d C D h k = absurd h
mul_value (inf i) y s t a c b d C D h k = absurd h
mul_value (fin i m e) nan s t a c b d C D h k = absurd k
mul_value (fin i m e) (inf j) s t a c b d C D h k = absurd k
mul_value (fin i m e) (fin j n f) s t a c b d C D h k =
    signs h.0 k.0 (m * up e * (n * up f)) (down e * down f)
    ∙ round_same binary64 (unlike s t) (m * up e * (n * up f)) (down e * down f) (a * b) (c * d) (mul-pos (down_pos e) (down_pos f)) (mul-pos C D)
    (mul-mul-mul_comm (m * up e) (n * up f) c d ∙ ap (λ (z : ℕ). z * (n * up f * d)) h.1 ∙ ap (λ (z : ℕ). a * down e * z) k.1 ∙ mul-mul-mul_comm a (down e) b (down f))

-- ---- sums: a first operand with no sign, and a second of either sign, which is no larger in size where its sign is set
abbrev pub apply : Bool → ℕ → ℕ → ℕ
apply false x y = x + y
apply true x y = x - y

spread : (s : Bool) (x y z : ℕ) → apply s x y * z ≡ apply s (x * z) (y * z)
spread false x y z = add-mul x y z
spread true x y z = mul_comm (x - y) z ∙ mul-sub z x y ∙ (λ i. mul_comm z x i - mul_comm z y i)

sum_plus : (A B C : ℕ) → sum binary64 false A false B C ≡ round binary64 false (A + B) C
unfolding sum
sum_plus A B C = refl

sum_minus : (A B C : ℕ) → B ≤ A → sum binary64 false A true B C ≡ round binary64 false (A - B) C
unfolding sum
sum_minus A B C h = cond_no (ltb A B) (round binary64 true (B - A) C) (round binary64 false (A - B) C) (not_T (ltb A B) (λ (t : T (ltb A B)). not-le_of_lt (ltb→lt A B t) h))

-- A / p is a / c and B / q is b / d
sum_cross : (s : Bool) (A B c d a b p q : ℕ) → A * c ≡ a * p → B * d ≡ b * q → apply s (A * q) (B * p) * (c * d) ≡ apply s (a * d) (b * c) * (p * q)
sum_cross s A B c d a b p q h k =
    let x : A * q * (c * d) ≡ a * d * (p * q) = left ∙ ap (λ (z : ℕ). z * (q * d)) h ∙ left' in
    let y : B * p * (c * d) ≡ b * c * (p * q) = right ∙ ap (λ (z : ℕ). z * (p * c)) k ∙ right' in
    spread s (A * q) (B * p) (c * d) ∙ both s x y ∙ sym (spread s (a * d) (b * c) (p * q))
  where
    left : A * q * (c * d) ≡ A * c * (q * d)
    left = simp (mul_assoc, mul_comm, mul_left_comm)

    left' : a * p * (q * d) ≡ a * d * (p * q)
    left' = simp (mul_assoc, mul_comm, mul_left_comm)

    right : B * p * (c * d) ≡ B * d * (p * c)
    right = simp (mul_assoc, mul_comm, mul_left_comm)

    right' : b * q * (p * c) ≡ b * c * (p * q)
    right' = simp (mul_assoc, mul_comm, mul_left_comm)

    both : (s : Bool) {x y x' y' : ℕ} → x ≡ x' → y ≡ y' → apply s x y ≡ apply s x' y'
    both s e f = λ i. apply s (e i) (f i)

smaller : (A B c d a b p q : ℕ) → 0 < c → 0 < d → A * c ≡ a * p → B * d ≡ b * q → b * c ≤ a * d → B * p ≤ A * q
smaller A B c d a b p q C D h k l = transfer B A q p b a d c D C k h l

pub add_value : (x y : Float) (s : Bool) (a c b d : ℕ) → 0 < c → 0 < d → HasValue x false a c → HasValue y s b d → b * c ≤ a * d → x +f y ≡ round binary64 false (apply s (a * d) (b * c)) (c * d)
unfolding add
add_value nan y s a c b d C D h k l = absurd h
add_value (inf i) y s a c b d C D h k l = absurd h
add_value (fin i m e) nan s a c b d C D h k l = absurd k
add_value (fin i m e) (inf j) s a c b d C D h k l = absurd k
add_value (fin i m e) (fin j n f) s a c b d C D h k l =
    (λ i'. sum binary64 (h.0 i') (m * up e * down f) (k.0 i') (n * up f * down e) (down e * down f))
    ∙ go s
    ∙ round_same binary64 false (apply s (m * up e * down f) (n * up f * down e)) (down e * down f) (apply s (a * d) (b * c)) (c * d) (mul-pos (down_pos e) (down_pos f)) (mul-pos C D)
    (sum_cross s (m * up e) (n * up f) c d a b (down e) (down f) h.1 k.1)
  where
    go : (s : Bool) → sum binary64 false (m * up e * down f) s (n * up f * down e) (down e * down f) ≡ round binary64 false (apply s (m * up e * down f) (n * up f * down e)) (down e * down f)
    go false = sum_plus (m * up e * down f) (n * up f * down e) (down e * down f)
    go true = sum_minus (m * up e * down f) (n * up f * down e) (down e * down f) (smaller (m * up e) (n * up f) c d a b (down e) (down f) C D h.1 k.1 l)

-- the other way round: the second operand, which has the sign, is larger
sum_less : (A B C : ℕ) → A < B → sum binary64 false A true B C ≡ round binary64 true (B - A) C
unfolding sum
sum_less A B C h = ap (λ (t : Bool). cond t (round binary64 true (B - A) C) (round binary64 false (A - B) C)) (is_true (ltb A B) (lt→ltb A B h))

pub sub_value_less : (x y : Float) (a c b d : ℕ) → 0 < c → 0 < d → HasValue x false a c → HasValue y true b d → a * d < b * c → x +f y ≡ round binary64 true (b * c - a * d) (d * c)
unfolding add
sub_value_less nan y a c b d C D h k l = absurd h
sub_value_less (inf i) y a c b d C D h k l = absurd h
sub_value_less (fin i m e) nan a c b d C D h k l = absurd k
sub_value_less (fin i m e) (inf j) a c b d C D h k l = absurd k
sub_value_less (fin i m e) (fin j n f) a c b d C D h k l =
    (λ i'. sum binary64 (h.0 i') (m * up e * down f) (k.0 i') (n * up f * down e) (down e * down f))
    ∙ sum_less (m * up e * down f) (n * up f * down e) (down e * down f) (strict (m * up e) (n * up f) (down e) (down f) (down_pos e) (down_pos f) h.1 k.1)
    ∙ round_same binary64 true (n * up f * down e - m * up e * down f) (down e * down f) (b * c - a * d) (d * c) (mul-pos (down_pos e) (down_pos f)) (mul-pos D C)
    (sum_cross true (n * up f) (m * up e) d c b a (down f) (down e) k.1 h.1 ∙ ap (λ (z : ℕ). (b * c - a * d) * z) (mul_comm (down f) (down e)))
  where
    strict : (A B p q : ℕ) → 0 < p → 0 < q → A * c ≡ a * p → B * d ≡ b * q → A * q < B * p
    strict A B p q P Q h k = lt_of_not-le (λ (g : B * p ≤ A * q). not-le_of_lt l (transfer b a d c B A q p Q P (sym k) (sym h) g))
