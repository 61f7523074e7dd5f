-- Rounded differences of positive floats. A quarter of the rounded gap of two f64 is less than every rounded difference that spans the gap, so a tolerance of at most that quarter does not reach so far; and two that are equal are within every tolerance. Assumes nothing.
use mathlib.Core.Path.{◌≡◌, refl, sym, ap, subst, ◌∙◌}
use mathlib.Core.Bool.{Bool, true, false, not, cond}
use mathlib.Core.Logic.{◌⊎◌, inl, inr, ⊎_elim}
use Prim.Native.Nat.{ℕ, zero, suc, ◌+◌, ◌-◌, ◌*◌, ◌%◌, ◌^◌, ◌≤◌, ◌<◌}
use native.Mathlib.Nat.{eq-or-lt_of_le, mul-one, mul_assoc, le_trans, le_of_eq, le_antisymm, lt_of_lt_of_le, mul-pos, mul-le-mul_left, mul-le-mul_right, mul-lt-mul_of_pos_right, le_of_mul-le-mul_right}
use native.Mathlib.Numerals.{add-one}
use native.Mathlib.Omega.{arith}
use lib.Dec.{T, ltb, ltb→lt, lt→ltb}
use lib.Pow.{pow-add, pow_pos, pow_mono}
use lib.Ieee.{Float, nan, inf, fin, binary64, up, down, odd, units, round, neg, sub, lt, le, is_nan, fits, to_bits, of_bits}
use lib.Ieee.Exact.{HasValue, round_exact}
use lib.Ieee.Fits.{round_is, sub-fits, up_pos, down_pos}
use lib.Ieee.Order.{le_of_values, round_mono}
use lib.Ieee.Positive.{num, den, positive, den_pos, own_value, first_pos, positive_of_value, value_pos, le→cross, values_of_le, between}
use Rattle.laws.specs.Floats.{◌-f◌, ◌*f◌, +0, quarter, abs_of, finite}
use Rattle.laws.proofs.Choices.{false_true}
use Rattle.laws.proofs.Comparing.{lt_or_le}
use Rattle.laws.proofs.Ops.{neg_value, mul_value, add_value, sub_value_less}
use Rattle.laws.proofs.Order.{lt_le_trans, lt_not_self, lt_or}
use Rattle.laws.proofs.Order as order
use Rattle.laws.proofs.Patterns.{amount, mant_of, expo_of, parted, expo_le}
use Rattle.laws.proofs.Signs.{Signed, signed_no_nan, round_signed}
use Rattle.laws.proofs.Values.{finite_pattern, finite_value}
use Rattle.surface.specs.Lookup.{near_of}

-- ---- the order

pub from_true : {b : Bool} → b ≡ true → T b
from_true e = subst T (sym e) tt

pub to_false : (b : Bool) → (T b → ⊥) → b ≡ false
to_false true h = absurd (h tt)
to_false false h = refl

pub positive_no_nan : (x : Float) → T (positive x) → T (not (is_nan x))
unfolding is_nan
positive_no_nan nan p = absurd p
positive_no_nan (inf s) p = absurd p
positive_no_nan (fin s m e) p = tt

-- of two that are no NaN, one that is not below is above or equal
pub not_below : (x y : Float) → T (not (is_nan x)) → T (not (is_nan y)) → lt y x ≡ false → T (le x y)
not_below x y p q h = go (le x y) (lt_or x y p q)
  where
    go : (b : Bool) → (T (not b) → T (lt y x)) → T b
    go true f = tt
    go false f = absurd (subst T h (f tt))

le_lt_trans : (a b c : Float) → T (not (is_nan a)) → T (not (is_nan b)) → T (not (is_nan c)) → T (le a b) → T (lt b c) → T (lt a c)
le_lt_trans a b c p q r h k = go (le c a) (lt_or c a r p) (λ l. order.le_trans c a b r q l h)
  where
    go : (t : Bool) → (T (not t) → T (lt a c)) → (T t → T (le c b)) → T (lt a c)
    go true f g = absurd (lt_not_self b (lt_le_trans b c b k (g tt)))
    go false f g = f tt

-- ---- a positive f64 is so many units of 2 ^ -1074, and has at most 53 digits of them

pub record Units (x : Float) : Type 0 where
  pub some : ℕ
  pub digits : ℕ
  pub zeros : ℕ
  pub value : HasValue x false some (2 ^ 1074)
  pub above : 0 < some
  pub parts : some ≡ digits * 2 ^ zeros
  pub few : digits < 2 ^ 53
  pub low : zeros ≤ 2045

pub positive_of : (x : Float) → finite x ≡ true → T (lt +0 x) → T (positive x)
unfolding finite lt of_bits
positive_of nan f h = absurd h
positive_of (inf s) f h = false_true f
positive_of (fin true m e) f h = absurd h
positive_of (fin false m e) f h = lt→ltb 0 m (first_pos m (up e) (let l = ltb→lt (0 * down e) (m * up e * 1) h in omega (arith, l)))

finite_of : (x : Float) → T (positive x) → finite x ≡ true
unfolding finite
finite_of nan p = absurd p
finite_of (inf s) p = absurd p
finite_of (fin s m e) p = refl

unsigned : (x : Float) (s : Bool) (n c : ℕ) → T (positive x) → HasValue x s n c → HasValue x false n c
unsigned nan s n c p v = absurd p
unsigned (inf t) s n c p v = absurd p
unsigned (fin true m e) s n c p v = absurd p
unsigned (fin false m e) s n c p v = (refl, v.1)

units_of_lem : (x : Float) → T (fits binary64 x) → T (positive x) → Units x
unfolding amount
units_of_lem x f p =
    let b = to_bits binary64 x in
    let v = unsigned x _ _ (2 ^ 1074) p (finite_value x f (finite_of x p)) in
    record {
      some = amount (b % 2 ^ 63);
      digits = mant_of (b % 2 ^ 63);
      zeros = expo_of (b % 2 ^ 63);
      value = v;
      above = value_pos x _ (2 ^ 1074) p (pow_pos 1074) v;
      parts = refl;
      few = (parted (b % 2 ^ 63)).small;
      low = expo_le (parted (b % 2 ^ 63)) (finite_pattern x f (finite_of x p));
    }

-- what has at most 53 digits of units rounds to itself
exact : (h m j : ℕ) → h ≡ m * 2 ^ j → m < 2 ^ 53 → j ≤ 2045 → HasValue (round binary64 false h (2 ^ 1074)) false h (2 ^ 1074)
exact h m j e few low =
    round_exact binary64 false h (2 ^ 1074) m j (pow_pos 1074) few
    (lt_of_lt_of_le (mul-lt-mul_of_pos_right few (pow_pos j)) (mul-le-mul_left (2 ^ 53) (pow_mono low)))
    (ap (λ (z : ℕ). z * 2 ^ 1074) e)

-- ---- a quarter of it is less

quarter_value : HasValue quarter false 1 4
unfolding of_bits
quarter_value = (refl, refl)

quarter_is : (g : Float) (G : ℕ) → HasValue g false G (2 ^ 1074) → quarter *f g ≡ round binary64 false (1 * G) (4 * 2 ^ 1074)
quarter_is g G v = mul_value quarter g false false 1 4 G (2 ^ 1074) (let z : 0 < 4 = omega arith in z) (pow_pos 1074) quarter_value v

pub quarter_signed : (g : Float) → Units g → Signed false (quarter *f g)
quarter_signed g u = subst (Signed false) (sym (quarter_is g u.some u.value)) (round_signed binary64 false _ _)

crosswise : (G h U : ℕ) → G ≤ 4 * h → 1 * G * U ≤ h * (4 * U)
crosswise G h U l = let a : G * U ≤ 4 * h * U = mul-le-mul_right U l in omega (arith, a)

-- by a value between, of at most 53 digits
quarter_by : (g : Float) (u : Units g) (h m j : ℕ) → h ≡ m * 2 ^ j → m < 2 ^ 53 → j ≤ 2045 → u.some ≤ 4 * h → h < u.some → T (lt (quarter *f g) g)
quarter_by g u h m j e few low l k =
    let G = u.some in
    let r = round binary64 false h (2 ^ 1074) in
    let v : HasValue r false h (2 ^ 1074) = exact h m j e few low in
    let above = u.above in
    let pg : T (positive g) = positive_of_value g G (2 ^ 1074) u.value above in
    let pr : T (positive r) = positive_of_value r h (2 ^ 1074) v (omega (arith, l, above)) in
    let small : T (le (quarter *f g) r) =
    subst (λ (z : Float). T (le z r)) (sym (quarter_is g G u.value))
    (round_mono binary64 (1 * G) (4 * 2 ^ 1074) h (2 ^ 1074) (mul-pos (let z : 0 < 4 = omega arith in z) (pow_pos 1074)) (pow_pos 1074) (crosswise G h (2 ^ 1074) l)) in
    let less : T (lt r g) =
    lt_or g r (positive_no_nan g pg) (positive_no_nan r pr)
    (no (le g r) (λ n. le_of_mul-le-mul_right (values_of_le g r G (2 ^ 1074) h (2 ^ 1074) pg pr u.value v n) (pow_pos 1074)) k) in
    le_lt_trans (quarter *f g) r g (signed_no_nan false _ (quarter_signed g u)) (positive_no_nan r pr) (positive_no_nan g pg) small less
  where
    no : (b : Bool) → (T b → u.some ≤ h) → h < u.some → T (not b)
    no true f k = let l = f tt in absurd (omega (arith, l, k))
    no false f k = tt

-- a quarter of the least unit rounds to zero
least : round binary64 false (1 * 1) (4 * 2 ^ 1074) ≡ +0
unfolding round of_bits
least = refl

above_zero : (g : Float) → T (positive g) → T (lt +0 g)
unfolding lt of_bits
above_zero nan p = absurd p
above_zero (inf s) p = absurd p
above_zero (fin true m e) p = absurd p
above_zero (fin false m e) p = let l = mul-pos (ltb→lt 0 m p) (up_pos e) in lt→ltb (0 * down e) (m * up e * 1) (omega (arith, l))

quarter_less : (g : Float) → Units g → T (lt (quarter *f g) g)
quarter_less g u = go u.zeros u.parts u.low
  where
    one_unit : u.some ≡ 1 → T (lt (quarter *f g) g)
    one_unit e =
        subst (λ (z : Float). T (lt z g)) (sym (quarter_is g u.some u.value ∙ ap (λ (n : ℕ). round binary64 false (1 * n) (4 * 2 ^ 1074)) e ∙ least))
        (above_zero g (positive_of_value g u.some (2 ^ 1074) u.value u.above))

    more_units : u.digits < 2 ^ 53 → u.some ≡ u.digits → 1 < u.some → T (lt (quarter *f g) g)
    more_units few e l =
        let h = u.some - 1 in
        quarter_by g u h h 0 (let z : h ≡ h * 1 = omega arith in z) (below u.some u.digits (2 ^ 53) e few) (omega arith) (omega (arith, l)) (omega (arith, l))
      where
        below : (a d n : ℕ) → a ≡ d → d < n → a - 1 < n
        below a d n e l = omega (arith, e, l)

    go : (z : ℕ) → u.some ≡ u.digits * 2 ^ z → z ≤ 2045 → T (lt (quarter *f g) g)
    go zero e l =
        let a = u.above in
        let d : u.some ≡ u.digits = e ∙ mul-one u.digits in
        ⊎_elim (λ (k : 1 ≡ u.some). one_unit (sym k)) (λ (k : 1 < u.some). more_units u.few d k) (eq-or-lt_of_le (let b : 1 ≤ u.some = omega (arith, a) in b))
    go (suc j) e l =
        let a = u.above in
        let h = u.digits * 2 ^ j in
        let d : u.some ≡ h * 2 = e ∙ ap (λ (k : ℕ). u.digits * 2 ^ k) (sym (add-one j)) ∙ ap (λ (k : ℕ). u.digits * k) (pow-add 2 j 1) ∙ sym (mul_assoc u.digits (2 ^ j) 2) in
        quarter_by g u h u.digits j refl u.few (omega (arith, l)) (omega (arith, d)) (omega (arith, d, a))

-- ---- magnitudes

abs_odd : (d : ℕ) (s : Bool) (q k l : ℕ) → abs_of (odd d s q k l) ≡ odd d false q k l
unfolding odd abs_of
abs_odd d s zero k l = refl
abs_odd d s (suc q) k l = refl

abs_units : (s : Bool) (q k : ℕ) → abs_of (units binary64 s q k) ≡ units binary64 false q k
unfolding units abs_of
abs_units s q k = go (ltb (q * 2 ^ k) (2 ^ 2098))
  where
    go : (b : Bool) → abs_of (cond b (odd 54 s q k 1074) (inf s)) ≡ cond b (odd 54 false q k 1074) (inf false)
    go true = abs_odd 54 s q k 1074
    go false = refl

abs_round : (s : Bool) (a c : ℕ) → abs_of (round binary64 s a c) ≡ round binary64 false a c
abs_round s a c = ap abs_of (round_is binary64 s a c) ∙ abs_units s _ _ ∙ sym (round_is binary64 false a c)

abs_value : (x : Float) (a c : ℕ) → HasValue x false a c → HasValue (abs_of x) false a c
unfolding abs_of
abs_value nan a c h = absurd h
abs_value (inf s) a c h = absurd h
abs_value (fin s m e) a c h = (refl, h.1)

-- zero is at most everything without a sign
zero_le : (x t : Float) (c : ℕ) → 0 < c → HasValue x false 0 c → Signed false t → T (le x t)
unfolding le lt
zero_le nan t c C v h = absurd v
zero_le (inf s) t c C v h = absurd v
zero_le (fin s m e) nan c C v h = absurd h
zero_le (fin s m e) (inf b) c C v h = subst (λ (b : Bool). T (le (fin s m e) (inf b))) (sym h) tt
zero_le (fin s m e) (fin b n d) c C v h = le_of_values (fin s m e) (fin b n d) 0 c (n * up d) (down d) C (down_pos d) v (h, refl) (let z : 0 * down d ≤ n * up d * c = omega arith in z)

-- ---- the gap of two f64, and what spans it

spread : (X P N D U : ℕ) → (X + P) * D ≤ N * U → ((X + P) * U - X * U) * (D * U) ≤ (N * U - X * D) * (U * U)
spread X P N D U h =
    let a : (X + P) * U - X * U ≡ P * U = omega arith in
    let b : P * D ≤ N * U - X * D = omega (arith, h) in
    let d : P * U * (D * U) ≡ P * D * (U * U) = omega arith in
    le_trans (le_of_eq (ap (λ (z : ℕ). z * (D * U)) a ∙ d)) (mul-le-mul_right (U * U) b)

spreads : (X Y N D U : ℕ) → X < Y → Y * D ≤ N * U → (Y * U - X * U) * (D * U) ≤ (N * U - X * D) * (U * U)
spreads X Y N D U l h =
    let e : X + (Y - X) ≡ Y = omega (arith, l) in
    subst (λ (y : ℕ). (y * U - X * U) * (D * U) ≤ (N * U - X * D) * (U * U)) e (spread X (Y - X) N D U (subst (λ (y : ℕ). y * D ≤ N * U) (sym e) h))

spread_down : (X P N D U : ℕ) → N * U ≤ X * D → ((X + P) * U - X * U) * (U * D) ≤ ((X + P) * D - N * U) * (U * U)
spread_down X P N D U h =
    let a : (X + P) * U - X * U ≡ P * U = omega arith in
    let b : P * D ≤ (X + P) * D - N * U = omega (arith, h) in
    let d : P * U * (U * D) ≡ P * D * (U * U) = omega arith in
    le_trans (le_of_eq (ap (λ (z : ℕ). z * (U * D)) a ∙ d)) (mul-le-mul_right (U * U) b)

spreads_down : (X Y N D U : ℕ) → X < Y → N * U ≤ X * D → (Y * U - X * U) * (U * D) ≤ (Y * D - N * U) * (U * U)
spreads_down X Y N D U l h =
    let e : X + (Y - X) ≡ Y = omega (arith, l) in
    subst (λ (y : ℕ). (y * U - X * U) * (U * D) ≤ (y * D - N * U) * (U * U)) e (spread_down X (Y - X) N D U h)

one_at_least : (X Y U : ℕ) → X < Y → 1 * (U * U) ≤ (Y * U - X * U) * U
one_at_least X Y U l =
    let a : (X + 1) * U ≤ Y * U = mul-le-mul_right U (omega (arith, l)) in
    let b : U ≤ Y * U - X * U = omega (arith, a) in
    let c = mul-le-mul_right U b in
    omega (arith, c)

at_most : (X Y U : ℕ) → (Y * U - X * U) * U ≤ Y * (U * U)
at_most X Y U =
    let b : Y * U - X * U ≤ Y * U = omega arith in
    let c = mul-le-mul_right U b in
    omega (arith, c)

module _ (x y : Float) (fx : T (fits binary64 x)) (fy : T (fits binary64 y)) (px : T (positive x)) (py : T (positive y)) (below : T (lt x y)) where
  abbrev U : ℕ
  U = 2 ^ 1074

  ux : Units x
  ux = units_of_lem x fx px

  uy : Units y
  uy = units_of_lem y fy py

  fewer : ux.some < uy.some
  fewer = go (lt_or_le ux.some uy.some)
    where
      go : (ux.some < uy.some) ⊎ (uy.some ≤ ux.some) → ux.some < uy.some
      go (inl l) = l
      go (inr l) = absurd (lt_not_self x (lt_le_trans x y x below (le_of_values y x uy.some U ux.some U (pow_pos 1074) (pow_pos 1074) uy.value ux.value (mul-le-mul_right U l))))

  gap_is : y -f x ≡ round binary64 false (uy.some * U - ux.some * U) (U * U)
  unfolding sub
  gap_is =
      let l = fewer in
      add_value y (neg x) true uy.some U ux.some U (pow_pos 1074) (pow_pos 1074) uy.value (neg_value x ux.some U ux.value) (mul-le-mul_right U (omega (arith, l)))

  gap_positive : T (positive (y -f x))
  gap_positive =
      let lo = round binary64 false 1 U in
      let hi = round binary64 false uy.some U in
      let l = exact 1 1 0 refl (let z : 1 < 2 ^ 53 = omega arith in z) (omega arith) in
      let h = exact uy.some uy.digits uy.zeros uy.parts uy.few uy.low in
      between lo (y -f x) hi (positive_of_value lo 1 U l (let z : 0 < 1 = omega arith in z)) (positive_of_value hi uy.some U h uy.above)
      (subst (λ (g : Float). T (le lo g)) (sym gap_is) (round_mono binary64 1 U (uy.some * U - ux.some * U) (U * U) (pow_pos 1074) (mul-pos (pow_pos 1074) (pow_pos 1074)) (one_at_least ux.some uy.some U fewer)))
      (subst (λ (g : Float). T (le g hi)) (sym gap_is) (round_mono binary64 (uy.some * U - ux.some * U) (U * U) uy.some U (mul-pos (pow_pos 1074) (pow_pos 1074)) (pow_pos 1074) (at_most ux.some uy.some U)))

  pub gap_units : Units (y -f x)
  gap_units = units_of_lem (y -f x) (sub-fits binary64 y x) gap_positive

  -- what is no less than the gap is above every tolerance of at most its quarter
  too_far : (w : Float) → T (not (is_nan w)) → T (le (y -f x) w) → (t : Float) → T (le t (quarter *f (y -f x))) → le w t ≡ false
  too_far w real far t h = to_false (le w t) (λ k.
      let q = quarter *f (y -f x) in
      let n : T (not (is_nan q)) = signed_no_nan false q (quarter_signed (y -f x) gap_units) in
      lt_not_self q (lt_le_trans q w q (lt_le_trans q (y -f x) w (quarter_less (y -f x) gap_units) far) (order.le_trans w t q real n k h)))

  module _ (z : Float) (pz : T (positive z)) (up_to_lem : T (le y z)) where
    crossed : uy.some * den z ≤ num z * U
    crossed = values_of_le y z uy.some U (num z) (den z) py pz uy.value (own_value z pz) up_to_lem

    across : ux.some * den z < num z * U
    across = lt_of_lt_of_le (mul-lt-mul_of_pos_right fewer (den_pos z)) crossed

    wide_is : abs_of (x -f z) ≡ round binary64 false (num z * U - ux.some * den z) (den z * U)
    unfolding sub
    wide_is =
        ap abs_of (sub_value_less x (neg z) ux.some U (num z) (den z) (pow_pos 1074) (den_pos z) ux.value (neg_value z (num z) (den z) (own_value z pz)) across)
        ∙ abs_round true (num z * U - ux.some * den z) (den z * U)

    -- the rounded difference is no less than the rounded gap
    wide : T (le (y -f x) (abs_of (x -f z)))
    wide =
        subst (λ (w : Float). T (le (y -f x) w)) (sym wide_is)
        (subst (λ (g : Float). T (le g (round binary64 false (num z * U - ux.some * den z) (den z * U)))) (sym gap_is)
        (round_mono binary64 (uy.some * U - ux.some * U) (U * U) (num z * U - ux.some * den z) (den z * U) (mul-pos (pow_pos 1074) (pow_pos 1074)) (mul-pos (den_pos z) (pow_pos 1074))
        (spreads ux.some uy.some (num z) (den z) U fewer crossed)))

    -- so a tolerance of at most a quarter of the gap does not reach from x to z
    pub out_of_reach : (t : Float) → T (le t (quarter *f (y -f x))) → near_of x z t ≡ false
    unfolding near_of
    out_of_reach t h = too_far (abs_of (x -f z)) (subst (λ (w : Float). T (not (is_nan w))) (sym wide_is) (signed_no_nan false _ (round_signed binary64 false _ _))) wide t h

  -- the same on the other side of the gap
  module _ (z : Float) (pz : T (positive z)) (down_to : T (le z x)) where
    under : num z * U ≤ ux.some * den z
    under = values_of_le z x (num z) (den z) ux.some U pz px (own_value z pz) ux.value down_to

    under_is : abs_of (y -f z) ≡ round binary64 false (uy.some * den z - num z * U) (U * den z)
    unfolding sub
    under_is =
        let l : ux.some * den z ≤ uy.some * den z = mul-le-mul_right (den z) (let f = fewer in omega (arith, f)) in
        ap abs_of (add_value y (neg z) true uy.some U (num z) (den z) (pow_pos 1074) (den_pos z) uy.value (neg_value z (num z) (den z) (own_value z pz)) (le_trans under l))
        ∙ abs_round false (uy.some * den z - num z * U) (U * den z)

    wide_under : T (le (y -f x) (abs_of (y -f z)))
    wide_under =
        subst (λ (w : Float). T (le (y -f x) w)) (sym under_is)
        (subst (λ (g : Float). T (le g (round binary64 false (uy.some * den z - num z * U) (U * den z)))) (sym gap_is)
        (round_mono binary64 (uy.some * U - ux.some * U) (U * U) (uy.some * den z - num z * U) (U * den z) (mul-pos (pow_pos 1074) (pow_pos 1074)) (mul-pos (pow_pos 1074) (den_pos z))
        (spreads_down ux.some uy.some (num z) (den z) U fewer under)))

    pub out_of_reach_under : (t : Float) → T (le t (quarter *f (y -f x))) → near_of y z t ≡ false
    unfolding near_of
    out_of_reach_under t h = too_far (abs_of (y -f z)) (subst (λ (w : Float). T (not (is_nan w))) (sym under_is) (signed_no_nan false _ (round_signed binary64 false _ _))) wide_under t h

-- ---- what is equal is within every tolerance

module _ (x z : Float) (px : T (positive x)) (pz : T (positive z)) (low : T (le x z)) (high : T (le z x)) where
  same : num x * den z ≡ num z * den x
  same = le_antisymm (le→cross x z px pz low) (le→cross z x pz px high)

  zero_is : x -f z ≡ round binary64 false 0 (den x * den z)
  unfolding sub
  zero_is =
      add_value x (neg z) true (num x) (den x) (num z) (den z) (den_pos x) (den_pos z) (own_value x px) (neg_value z (num z) (den z) (own_value z pz)) (le_of_eq (sym same))
      ∙ ap (λ (n : ℕ). round binary64 false n (den x * den z)) (let s = same in let e : num x * den z - num z * den x ≡ 0 = omega (arith, s) in e)

  pub within_any : (t : Float) → Signed false t → T (near_of x z t)
  unfolding near_of
  within_any t h = zero_le (abs_of (x -f z)) t (den x * den z) (mul-pos (den_pos x) (den_pos z)) (abs_value (x -f z) 0 (den x * den z) (subst (λ (v : Float). HasValue v false 0 (den x * den z)) (sym zero_is) (round_exact binary64 false 0 (den x * den z) 0 0 (mul-pos (den_pos x) (den_pos z)) (pow_pos 53) (pow_pos 2098) (nothing (den x * den z) (2 ^ 1074))))) h
    where
      nothing : (c U : ℕ) → 0 * U ≡ 0 * 1 * c
      nothing c U = omega arith
