-- Where the code takes a shorter way than the definition: magnitudes that keep the sign of a -0, the scale by rows, a row that changes places with itself, columns left out, a stop at the first refusal, and a count down from the most there can be. Assumes nothing.
use mathlib.Core.Path.{◌≡◌, refl, sym, ap, ap₂, subst, ◌∙◌}
use mathlib.Core.Bool.{Bool, true, false, not, ◌&&◌, ◌||◌, cond, beq}
use mathlib.Core.List.{List}
use Prim.Native.Nat.{ℕ, zero, suc, ◌+◌, ◌-◌, ◌*◌, ◌≤◌, ◌<◌, min}
use native.Mathlib.Nat.{zero-mul, mul-pos, add-zero, zero-add, sub-add_cancel}
use native.Mathlib.Omega.{arith}
use lib.Dec.{T, ltb, leb, eqb}
use lib.IntN.{ℤ}
use lib.Seq.{set-get_or}
use lib.ListN.{set}
use lib.Ieee.{Float, nan, inf, fin, up, down, lt, le, eq, neg, is_nan, of_bits}
use lib.Ieee.Fits.{up_pos}
use lib.Ieee.Bits.{is_true}
use borrow.Author.Tests.{ltb-true, ltb-false, le-ltb, le-leb, lt-leb}
use Rattle.laws.specs.Loop.{turns}
use Rattle.laws.specs.Floats.{◌-f◌, ◌/f◌, +0, at, abs_of, unsigned_of, max_of, finite}
use Rattle.laws.proofs.Choices.{false_true, cond_test, if_true, if_false}
use Rattle.laws.proofs.Floats.{nan_test}
use Rattle.laws.proofs.Loops.{again, ended, halted}
use Rattle.laws.proofs.Order.{lt_le_trans, lt_or, lt→le}
use Rattle.solver.specs.Solve.{entry, ranked, row_scale_of, exchange}
use Rattle.std.specs.Prelude.{Result, Ok, Err}
use Rattle.solver.specs.Rows.{NotBelowZero, Room, Reduced, tail_in, back_row_in, back_from, spot, room, reduced, counted, eliminated, pivot_in, swap_in, clear_in, raised_in, cleared_in, column_in, from_in, most_of, most_from}

cond_same : {A : Type 0} {x : A} (t : Bool) → cond t x x ≡ x
cond_same true = refl
cond_same false = refl

or_true : (t : Bool) → (t || true) ≡ true
or_true true = refl
or_true false = refl

-- ---- a magnitude that keeps the sign of a -0 compares as the magnitude

-- a product with a zero in front
none : (b c : ℕ) → 0 * b * c ≡ 0
none b c = ap (λ (x : ℕ). x * c) (zero-mul b) ∙ zero-mul c

-- what holds of equal ones, and of the two zeros, holds of both forms of a magnitude
unsigned_ind : (P : Float → Float → Type 0) → ((y : Float) → P y y) → ((e : ℤ) → P (fin true 0 e) (fin false 0 e)) → (x : Float) → P (unsigned_of x) (abs_of x)
unfolding lt neg abs_of of_bits
unsigned_ind P p q nan = p nan
unsigned_ind P p q (inf true) = p (inf false)
unsigned_ind P p q (inf false) = p (inf false)
unsigned_ind P p q (fin false m e) = go (lt (fin false m e) +0) refl
  where
    go : (b : Bool) → lt (fin false m e) +0 ≡ b → P (cond b (fin true m e) (fin false m e)) (fin false m e)
    go true h = absurd (omega (arith, ltb-true (m * up e * 1) (0 * down e) h, zero-mul (down e)))
    go false h = p (fin false m e)
unsigned_ind P p q (fin true zero e) = go (lt (fin true zero e) +0)
  where
    go : (b : Bool) → P (cond b (fin false 0 e) (fin true 0 e)) (fin false 0 e)
    go true = p (fin false 0 e)
    go false = q e
unsigned_ind P p q (fin true (suc m) e) = go (lt (fin true (suc m) e) +0) refl
  where
    go : (b : Bool) → lt (fin true (suc m) e) +0 ≡ b → P (cond b (fin false (suc m) e) (fin true (suc m) e)) (fin false (suc m) e)
    go true h = p (fin false (suc m) e)
    go false h = absurd (omega (arith, ltb-false 0 (suc m * up e * 1 + 0 * down e) h, zero-mul (down e), mul-pos {m = suc m} {n = up e} (omega arith) (up_pos e)))

lt_zero : (e : ℤ) (z : Float) → lt (fin true 0 e) z ≡ lt (fin false 0 e) z
unfolding lt
lt_zero e nan = refl
lt_zero e (inf t) = refl
lt_zero e (fin false n d) = rw (none (up e) (down d)) (ap (ltb 0) (zero-add (n * up d * down e)))
lt_zero e (fin true n d) = rw (none (up e) (down d)) (le-ltb (n * up d * down e) 0 (omega arith))

zero_lt : (e : ℤ) (z : Float) → lt z (fin true 0 e) ≡ lt z (fin false 0 e)
unfolding lt
zero_lt e nan = refl
zero_lt e (inf t) = refl
zero_lt e (fin false n d) = rw (none (up e) (down d)) (sym (le-ltb (n * up d * down e) 0 (omega arith)))
zero_lt e (fin true n d) = rw (none (up e) (down d)) (ap (ltb 0) (sym (add-zero (n * up d * down e))))

eq_zero : (e : ℤ) (z : Float) → eq (fin true 0 e) z ≡ eq (fin false 0 e) z
unfolding eq
eq_zero e nan = refl
eq_zero e (inf t) = refl
eq_zero e (fin false n d) = rw (none (up e) (down d)) (refl)
eq_zero e (fin true n d) = rw (none (up e) (down d)) (refl)

zero_eq : (e : ℤ) (z : Float) → eq z (fin true 0 e) ≡ eq z (fin false 0 e)
unfolding eq
zero_eq e nan = refl
zero_eq e (inf t) = refl
zero_eq e (fin s n d) = rw (none (up e) (down d)) (go s (eqb (n * up d * down e) 0))
  where
    go : (s b : Bool) → (b && (beq s true || b)) ≡ (b && (beq s false || b))
    go true true = refl
    go true false = refl
    go false true = refl
    go false false = refl

pub le_unsigned : (x z : Float) → le (unsigned_of x) z ≡ le (abs_of x) z
unfolding le
le_unsigned x z = unsigned_ind (λ (a b : Float). le a z ≡ le b z) (λ y. refl) (λ e. ap₂ ◌||◌ (lt_zero e z) (eq_zero e z)) x

unsigned_le : (z x : Float) → le z (unsigned_of x) ≡ le z (abs_of x)
unfolding le
unsigned_le z x = unsigned_ind (λ (a b : Float). le z a ≡ le z b) (λ y. refl) (λ e. ap₂ ◌||◌ (zero_lt e z) (zero_eq e z)) x

nan_unsigned : (x : Float) → is_nan (unsigned_of x) ≡ is_nan (abs_of x)
unfolding is_nan
nan_unsigned x = unsigned_ind (λ (a b : Float). is_nan a ≡ is_nan b) (λ y. refl) (λ e. refl) x

-- the code's two tests, a <= b and whether b is a NaN, of magnitudes of both forms
module _ (x y a b : Float) (f : a ≡ unsigned_of x) (g : b ≡ unsigned_of y) where
  tested : ranked (abs_of x) (abs_of y) ≡ (is_nan b || le a b)
  unfolding ranked
  tested =
      sym (ap₂ ◌||◌ (ap is_nan g ∙ nan_unsigned y) (ap₂ le f g ∙ le_unsigned x (unsigned_of y) ∙ unsigned_le (abs_of x) y))

  pub ranked_least : le a b ≡ true → ranked (abs_of x) (abs_of y) ≡ true
  ranked_least h = tested ∙ ap (λ (t : Bool). is_nan b || t) h ∙ or_true (is_nan b)

  pub ranked_nan : is_nan b ≡ true → ranked (abs_of x) (abs_of y) ≡ true
  ranked_nan h = tested ∙ ap (λ (t : Bool). t || le a b) h

  pub ranked_not : le a b ≡ false → is_nan b ≡ false → ranked (abs_of x) (abs_of y) ≡ false
  ranked_not h k = tested ∙ ap₂ ◌||◌ k h

-- ---- the scale, row by row

-- the code's max: the first of the largest
abbrev pub larger : Float → Float → Float
larger a b = cond (lt a b) b a

pub zero_not_below : NotBelowZero +0
unfolding is_nan lt of_bits
zero_not_below = record { number = refl; above = refl }

below_number : (a b : Float) → lt a b ≡ true → is_nan b ≡ false
unfolding lt is_nan
below_number nan nan h = false_true h
below_number (inf s) nan h = false_true h
below_number (fin s m e) nan h = false_true h
below_number a (inf s) h = refl
below_number a (fin s m e) h = refl

pub abs_above : (x : Float) → lt (abs_of x) +0 ≡ false
unfolding lt abs_of of_bits
abs_above nan = refl
abs_above (inf s) = refl
abs_above (fin s m e) = le-ltb (m * up e * 1) (0 * down e) (omega (arith, zero-mul (down e)))

-- no zero is above a number that is not below zero
not_below_zero : (a : Float) (e : ℤ) → lt a +0 ≡ false → lt a (fin true 0 e) ≡ false
unfolding lt of_bits
not_below_zero nan e h = refl
not_below_zero (inf s) e h = h
not_below_zero (fin false m d) e h = refl
not_below_zero (fin true m d) e h =
    let z : m * up d ≡ 0 = omega (arith, ltb-false 0 (m * up d * 1 + 0 * down d) h) in
    rw (none (up e) (down d), z, zero-mul (down e)) refl

or_false : (t : Bool) → (t || false) ≡ t
or_false true = refl
or_false false = refl

pub larger_max : (a b : Float) → is_nan a ≡ false → larger a b ≡ max_of a b
unfolding max_of
larger_max a b h = sym (ap (λ (t : Bool). cond (lt a b || t) b a) (nan_test a ∙ h) ∙ ap (λ (t : Bool). cond t b a) (or_false (lt a b)))

-- one entry: the code's step is the definition's, and keeps the number not below zero
pub larger_step : (a x : Float) → NotBelowZero a → larger a (unsigned_of x) ≡ max_of a (abs_of x)
larger_step a x s =
    unsigned_ind (λ (u v : Float). larger a u ≡ larger a v) (λ y. refl)
    (λ e. ap (λ (t : Bool). cond t (fin true 0 e) a) (not_below_zero a e s.above) ∙ sym (ap (λ (t : Bool). cond t (fin false 0 e) a) (sym (zero_lt e a) ∙ not_below_zero a e s.above)))
    x
    ∙ larger_max a (abs_of x) s.number

larger_not_below : (a b : Float) → NotBelowZero a → lt b +0 ≡ false → NotBelowZero (larger a b)
larger_not_below a b s h = cond_test NotBelowZero (lt a b) (λ l. record { number = below_number a b l; above = h }) (λ l. s)

pub step_not_below : (a x : Float) → NotBelowZero a → NotBelowZero (max_of a (abs_of x))
step_not_below a x s = subst NotBelowZero (larger_max a (abs_of x) s.number) (larger_not_below a (abs_of x) s (abs_above x))

pub both_not_below : (a b : Float) → NotBelowZero a → NotBelowZero b → NotBelowZero (larger a b)
both_not_below a b s t = larger_not_below a b s t.above

-- what is at least as large as something is not below what that is not below
pub not_lt_trans : (a b c : Float) → is_nan b ≡ false → lt a b ≡ false → lt b c ≡ false → lt a c ≡ false
not_lt_trans a b c n h k = go (lt a c) refl
  where
    go : (t : Bool) → lt a c ≡ t → lt a c ≡ false
    go false e = e
    go true e =
        let c-number = subst (λ (t : Bool). T (not t)) (sym (below_number a c e)) tt in
        let b-number = subst (λ (t : Bool). T (not t)) (sym n) tt in
        let under = by (le c b) (lt_or c b c-number b-number) in
        false_true (sym h ∙ is_true (lt a b) (lt_le_trans a c b (subst T (sym e) tt) under))
      where
        by : (t : Bool) → (T (not t) → T (lt b c)) → T t
        by true f = tt
        by false f = absurd (subst T k (f tt))

larger_assoc : (a b c : Float) → is_nan b ≡ false → larger (larger a b) c ≡ larger a (larger b c)
larger_assoc a b c n = go (lt a b) (lt b c) refl refl
  where
    go : (s t : Bool) → lt a b ≡ s → lt b c ≡ t → larger (cond s b a) c ≡ larger a (cond t c b)
    go true true h k = rw (k, is_true (lt a c) (lt_le_trans a b c (subst T (sym h) tt) (lt→le b c (subst T (sym k) tt)))) refl
    go true false h k = rw (k, h) refl
    go false true h k = refl
    go false false h k = rw (not_lt_trans a b c n h k, h) refl

-- a row from a on is the larger of a and the row from +0 on
row_turns : (m : List Float) (i k j : ℕ) (a : Float) → NotBelowZero a → turns (λ j acc. max_of acc (abs_of (entry m i j))) k j a ≡ larger a (turns (λ j acc. max_of acc (abs_of (entry m i j))) k j +0)
unfolding turns
row_turns m i zero j a s = sym (ap (λ (t : Bool). cond t +0 a) s.above)
row_turns m i (suc k) j a s =
    let y = abs_of (entry m i j) in
    let rest = turns (λ j acc. max_of acc (abs_of (entry m i j))) k (j + 1) +0 in
    row_turns m i k (j + 1) (max_of a y) (step_not_below a (entry m i j) s)
    ∙ ap (λ (b : Float). larger b rest) (sym (larger_max a y s.number) ∙ from_zero (lt +0 y) refl)
    ∙ larger_assoc a (larger +0 y) rest (larger_not_below +0 y zero_not_below (abs_above (entry m i j))).number
    ∙ ap (larger a) (ap (λ (b : Float). larger b rest) (larger_max +0 y zero_not_below.number) ∙ sym (row_turns m i k (j + 1) (max_of +0 y) (step_not_below +0 (entry m i j) zero_not_below)))
  where
    from_zero : (t : Bool) → lt +0 (abs_of (entry m i j)) ≡ t → larger a (abs_of (entry m i j)) ≡ larger a (cond t (abs_of (entry m i j)) +0)
    from_zero true h = refl
    from_zero false h = rw (not_lt_trans a +0 (abs_of (entry m i j)) zero_not_below.number s.above h, s.above) refl

pub row_from : (n : ℕ) (m : List Float) (i : ℕ) (a : Float) → NotBelowZero a → larger a (row_scale_of n m i +0) ≡ row_scale_of n m i a
unfolding row_scale_of
row_from n m i a s = sym (row_turns m i (n - 0) 0 a s)

-- ---- a row with itself

exchange_self : (l : List Float) (i : ℕ) → exchange l i i ≡ l
exchange_self l i = ap (λ (t : List Float). set t i (at l i)) (set-get_or l i nan) ∙ set-get_or l i nan

pub swap_self : (m : List Float) (a b : ℕ) → a ≡ b → m ≡ swap_in a b m
unfolding swap_in
swap_self m a b e = halted (λ j t. exchange t (a * 8 + j) (a * 8 + j)) a 7 (λ j. exchange_self m (a * 8 + j)) (ap (λ (b : ℕ). swap_in a b m) e)

-- ---- the elimination from a column on: the column is not the system's, it is refused, or it is cleared and the rest goes on

-- three times the most of d + 1 unknowns is three times d rows of d + 1 entries, and three times the most of d
pub cubic_more : (d : ℕ) → (d + 1) * ((d + 1) * (d + 1) - 1) ≡ 3 * (d * (d + 1)) + d * (d * d - 1)
cubic_more zero = refl
cubic_more (suc d) =
    let x : (suc d + 1) * (suc d + 1) - 1 ≡ d * d + 4 * d + 3 = omega arith in
    let y : suc d * suc d - 1 ≡ d * d + 2 * d = omega arith in
    rw (x, y) (omega arith)

-- the most that is still to come where the system has column k, and what of it the column may take
most_here : (k n : ℕ) → 6 - k ≤ n → most_from k n ≡ most_of (6 - k)
most_here k n h = ap most_of (omega arith)

most_split : (k n : ℕ) → k < 6 → 6 - k ≤ n → most_from k n ≡ (6 - (k + 1)) * (6 - k) + most_from (k + 1) n
most_split k n l h =
    let d : ℕ = 6 - (k + 1) in
    let e : d + 1 ≡ 6 - k = omega arith in
    let more : most_of (d + 1) ≡ d * (d + 1) + most_of d = omega (arith, cubic_more d) in
    most_here k n h ∙ rw e at more ∙ ap (λ (x : ℕ). d * (6 - k) + x) (sym (most_here (k + 1) n (omega arith)))

module _ (k n : ℕ) (limit : Float) where
  -- one column where the system has it
  abbrev turn : ℕ → Reduced → Reduced
  turn col s = cond (leb 6 (n + col)) (column_in limit col s) s

  one_column : (s : Reduced) → k < 6 → from_in (k + 1) n limit (turn k s) ≡ from_in k n limit s
  unfolding from_in
  one_column s l = again turn k 6 l refl refl

  -- the system has not the column
  pub left_out : (m : List Float) (left : ℕ) → k < 6 → n < 6 - k → from_in (k + 1) n limit (reduced true m (left - most_from (k + 1) n)) ≡ from_in k n limit (reduced true m (left - most_from k n))
  left_out m left l h =
      let z : most_from (k + 1) n ≡ most_from k n = ap most_of (omega arith) in
      rw z (ap (from_in (k + 1) n limit) (if_false _ (lt-leb 6 (n + k) (omega arith)) refl) ∙ one_column (reduced true m (left - most_from k n)) l)

  -- the pivot in row p, of magnitude x, is tested
  module _ (m : List Float) {p : ℕ} {x : Float} (l : k < 6) (h : 6 - k ≤ n) (e : p ≡ pivot_in k m) (f : x ≡ unsigned_of (spot m p k)) where
    raised : (t : Bool) (u : ℕ) → le x limit ≡ t → from_in (k + 1) n limit (cleared_in k (cond t (room false m) (room true (swap_in k p m))) u) ≡ from_in k n limit (reduced true m u)
    unfolding column_in raised_in
    raised t u g =
        let test : t ≡ le (abs_of (spot m p k)) limit = sym g ∙ ap (λ (x : Float). le x limit) f ∙ le_unsigned (spot m p k) limit in
        ap (from_in (k + 1) n limit) (
        if_true _ (le-leb 6 (n + k) (omega arith))
        (ap (λ (t : Bool). cleared_in k (cond t (room false m) (room true (swap_in k p m))) u) test ∙ ap (λ (p : ℕ). cleared_in k (raised_in limit k p m) u) e)
        )
        ∙ one_column (reduced true m u) l

    -- it refuses: nothing more is counted
    pub stopped : (left : ℕ) → le x limit ≡ true → from_in (k + 1) n limit (reduced false m (left - most_of (6 - k))) ≡ from_in k n limit (reduced true m (left - most_from k n))
    unfolding cleared_in
    stopped left g = ap (λ (c : ℕ). from_in (k + 1) n limit (reduced false m (left - c))) (sym (most_here k n h)) ∙ raised true (left - most_from k n) g

    -- it is brought up, and the rows below it are cleared
    pub cleared : {left v : ℕ} {q t : List Float} → le x limit ≡ false → t ≡ swap_in k p m → most_from k n ≤ left
        → ((u rest : ℕ) → u + (6 - (k + 1)) * (6 - k) + rest ≡ left → (reduced true q (v - rest) ≡ clear_in k (reduced true t u)) × (rest ≤ v))
        → (from_in (k + 1) n limit (reduced true q (v - most_from (k + 1) n)) ≡ from_in k n limit (reduced true m (left - most_from k n))) × (most_from (k + 1) n ≤ v)
    unfolding cleared_in
    cleared {left} {v} {q} {t} g s a c =
        let u : ℕ = left - most_from k n in
        let y = c u (most_from (k + 1) n) (omega (arith, most_split k n l h, sub-add_cancel a)) in
        (ap (from_in (k + 1) n limit) (y.0 ∙ ap (λ (t : List Float). clear_in k (reduced true t u)) s) ∙ raised false u g, y.1)

-- what is refused is passed on by the columns that are left
pub stays : (k n : ℕ) (limit : Float) (m : List Float) (u : ℕ) → reduced false m u ≡ from_in k n limit (reduced false m u)
unfolding from_in column_in
stays k n limit m u = halted _ k 6 (λ j. cond_same (leb 6 (n + j))) refl

-- before the first column nothing is counted
pub begun : (n : ℕ) (limit : Float) (m : List Float) {left : ℕ} → n ≤ 6 → left ≡ most_of n → from_in 0 n limit (reduced true m (left - most_from 0 n)) ≡ from_in 0 n limit (reduced true m 0)
begun n limit m {left} l e =
    let six : most_from 0 n ≡ most_of n = ap most_of (omega arith) in
    let none : left - most_from 0 n ≡ 0 = omega (arith, e, six) in
    ap (λ (u : ℕ). from_in 0 n limit (reduced true m u)) none

-- after the last one nothing is left
pub over : (n : ℕ) (limit : Float) (r : Result ℕ ℕ) (m : List Float) → eliminated r m ≡ from_in 6 n limit (counted 6 n r m)
unfolding from_in turns
over n limit (Ok left) m =
    let zero : min n (6 - 6) ≡ 0 = omega arith in
    let none : most_from 6 n ≡ 0 = ap most_of zero in
    let all : left ≡ left - most_from 6 n = omega (arith, none) in
    ap (reduced true m) all
over n limit (Err updates) m = refl

-- ---- the substitution back, from a row up

module _ (row n : ℕ) (m : List Float) where
  -- the system has not the row
  pub row_left_out : (s : Room) → row < 6 → n < 6 - row → back_from (6 - row) n m s ≡ back_from (5 - row) n m s
  row_left_out s l h = sym (ended _ (6 - row) n (omega arith) refl) ∙ ended _ (5 - row) n (omega arith) refl

  abbrev pub over_diagonal : Float → Float
  over_diagonal tail = (spot m row 6 -f tail) /f spot m row row

  -- its unknown is put in its place, and refuses where it is not finite
  pub row_known : (x : List Float) {tail : Float} {ok : Bool} → row < 6 → 6 - row ≤ n → tail ≡ tail_in m x row → ok ≡ finite (over_diagonal tail)
      → back_from (6 - row) n m (room ok (set x row (over_diagonal tail))) ≡ back_from (5 - row) n m (room true x)
  unfolding back_row_in
  row_known x {tail} {ok} l h e f =
      let here : row ≡ 5 - (5 - row) = omega arith in
      let next : 6 - row ≡ 5 - row + 1 = omega arith in
      let step = ap (λ (ok : Bool). room ok (set x row (over_diagonal tail))) f ∙ ap (λ (t : Float). room (finite (over_diagonal t)) (set x row (over_diagonal t))) e in
      ap (λ (k : ℕ). back_from k n m (room ok (set x row (over_diagonal tail)))) next
      ∙ again _ (5 - row) n (omega arith) (step ∙ ap (λ (r : ℕ). back_row_in m r (room true x)) here) refl

-- what is refused is passed on
pub back_refused : (k n : ℕ) (m x : List Float) {w : Room} → back_from k n m (room false x) ≡ w → w.ok ≡ false
unfolding back_row_in
back_refused k n m x e = sym (ap (λ (s : Room). s.ok) (halted _ k n (λ j. refl) e))

-- no row is left
pub back_known : (n : ℕ) (m x : List Float) {w : Room} → n ≤ 6 → back_from 6 n m (room true x) ≡ w → room true x ≡ w
back_known n m x l e = ended _ 6 n l e
