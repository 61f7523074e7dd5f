-- Every face but the empty one has one scale, the larger of the block's and one: a constraint has an entry of magnitude one, and none of more. Assumes nothing.
use mathlib.Core.Path.{◌≡◌, refl, sym, ap, subst, ◌∙◌}
use mathlib.Core.Bool.{Bool, true, false}
use mathlib.Core.List.{List, [], ◌∷◌}
use Prim.Native.Nat.{ℕ, zero, suc, ◌+◌, ◌-◌, ◌*◌, ◌/◌, ◌^◌, ◌≤◌, ◌<◌}
use native.Mathlib.Nat.{mul_right_comm, mul_comm, mul-div-mul_right}
use native.Mathlib.Omega.{arith}
use lib.Dec.{T}
use lib.IntN.{ℤ}
use lib.ListN.{set, replicate}
use lib.Seq.{get_or-set_other}
use lib.Ieee.{Float, nan, inf, fin, binary64, up, down, size, lt, neg, fits, is_nan, of_bits, to_bits}
use lib.Ieee.Bits.{of_bits-to_bits}
use lib.Ieee.Fits.{down_pos, mul-fits, nan-fits}
use borrow.Author.Tests.{ltb-false}
use Rattle.laws.specs.Loop.{turns}
use Rattle.laws.specs.Floats.{◌*f◌, +0, one, two, at, abs_of, unsigned_of, max_of}
use Rattle.laws.proofs.Choices.{false_true, cond_ind, cond_test}
use Rattle.laws.proofs.Loops.{for_ind, for_keeps, below_next}
use Rattle.laws.proofs.Order.{lt_le_trans, lt_not_self, lt→le}
use Rattle.solver.specs.Solve.{entry, row_scale_of, scale_of}
use Rattle.solver.specs.Rows.{NotBelowZero}
use Rattle.solver.proofs.Steps.{larger, larger_max, larger_step, step_not_below, abs_above, not_lt_trans}
use Rattle.faces.specs.declared.Face.{Face}
use Rattle.cell.specs.declared.Normal.{Normal}
use Rattle.cell.specs.Cell.{slot_of, kkt_of}
use Rattle.faces.specs.Faces.{member_of, face_at}
use Rattle.faces.specs.Next.{Good}
use Rattle.polytope.specs.Polytope.{rows_of}
use Rattle.cell.specs.Shared.{doubled_of, lines_of, block_of, line_scale, empty_scale, other_scale, Scaled}
use Rattle.faces.proofs.Orders.{fit_order, face_some}

-- ---- the code's steps

-- one entry: the code's step is the definition's, and keeps the number not below zero
step_is : {a u r : Float} (x : Float) → NotBelowZero a → u ≡ unsigned_of x → r ≡ larger a u → (r ≡ max_of a (abs_of x)) × NotBelowZero r
step_is {a} {u} {r} x s d e =
    let h = e ∙ ap (larger a) d ∙ larger_step a x s in
    (h, subst NotBelowZero (sym h) (step_not_below a x s))

-- three entries
pub line_is :
    {a u v w p q r : Float} (x y z : Float) → NotBelowZero a → u ≡ unsigned_of x → p ≡ larger a u → v ≡ unsigned_of y → q ≡ larger p v → w ≡ unsigned_of z → r ≡ larger q w
    → (r ≡ line_scale a x y z) × NotBelowZero r
line_is x y z s d e f g h k =
    let i = step_is x s d e in
    let j = step_is y i.1 f g in
    let l = step_is z j.1 h k in
    (l.0 ∙ ap (λ (a : Float). max_of a (abs_of z)) (j.0 ∙ ap (λ (a : Float). max_of a (abs_of y)) i.0), l.1)

-- the three lines of the block
abbrev scale_by : Normal → Float → Float
scale_by n a = line_scale (line_scale (line_scale a n.a.q0 n.a.q1 n.a.q2) n.d.q0 n.d.q1 n.d.q2) n.c.q0 n.c.q1 n.c.q2

pub block_is :
    (b : List Float) {n : Normal} {p q r : Float} → n ≡ lines_of b
    → p ≡ line_scale +0 n.a.q0 n.a.q1 n.a.q2 → q ≡ line_scale p n.d.q0 n.d.q1 n.d.q2 → r ≡ line_scale q n.c.q0 n.c.q1 n.c.q2
    → r ≡ empty_scale b
unfolding scale_of row_scale_of turns
block_is b {n = n} e h k l =
    l ∙ ap (λ (a : Float). line_scale a n.c.q0 n.c.q1 n.c.q2) (k ∙ ap (λ (a : Float). line_scale a n.d.q0 n.d.q1 n.d.q2) h)
    ∙ ap (λ (n : Normal). scale_by n +0) e

-- ---- two scales, neither below the other, are one

-- a number with its sign clear, in its one form
record Scale (a : Float) : Type 0 where
  number : is_nan a ≡ false
  clear : abs_of a ≡ a
  fit : T (fits binary64 a)

-- equal fractions have as many whole parts of size 1 / l
same_parts : (a p b q l : ℕ) → 0 < p → 0 < q → a * q ≡ b * p → a * l / p ≡ b * l / q
same_parts a p b q l P Q e =
    sym (mul-div-mul_right (a * l) p Q) ∙ ap (λ (x : ℕ). x / (p * q)) (mul_right_comm a l q ∙ ap (λ (x : ℕ). x * l) e ∙ mul_right_comm b p l)
    ∙ ap (λ (x : ℕ). b * l * p / x) (mul_comm p q) ∙ mul-div-mul_right (b * l) q P

-- the pattern of a finite float with its sign clear is decided by its whole parts of size 2 ^ -1074
same_bits : (m n : ℕ) (e d : ℤ) → m * up e * 2 ^ 1074 / down e ≡ n * up d * 2 ^ 1074 / down d → to_bits binary64 (fin false m e) ≡ to_bits binary64 (fin false n d)
unfolding to_bits
same_bits m n e d h = ap (λ (n : ℕ). 0 + (size n - 53) * 2 ^ 52 + n / 2 ^ (size n - 53)) h

-- two magnitudes, neither below the other
same_abs : (x y : Float) → is_nan x ≡ false → is_nan y ≡ false → T (fits binary64 (abs_of x)) → T (fits binary64 (abs_of y)) → lt (abs_of x) (abs_of y) ≡ false → lt (abs_of y) (abs_of x) ≡ false → abs_of x ≡ abs_of y
unfolding is_nan abs_of lt
same_abs nan y p q f g h k = false_true (sym p)
same_abs (inf s) nan p q f g h k = false_true (sym q)
same_abs (inf s) (inf t) p q f g h k = refl
same_abs (inf s) (fin t n d) p q f g h k = false_true (sym k)
same_abs (fin s m e) nan p q f g h k = false_true (sym q)
same_abs (fin s m e) (inf t) p q f g h k = false_true (sym h)
same_abs (fin s m e) (fin t n d) p q f g h k =
    let a : m * up e * down d ≡ n * up d * down e = omega (arith, ltb-false (m * up e * down d) (n * up d * down e) h, ltb-false (n * up d * down e) (m * up e * down d) k) in
    sym (of_bits-to_bits binary64 (fin false m e) f)
    ∙ ap (of_bits binary64) (same_bits m n e d (same_parts (m * up e) (down e) (n * up d) (down d) (2 ^ 1074) (down_pos e) (down_pos d) a))
    ∙ of_bits-to_bits binary64 (fin false n d) g

-- the same of scales
same_scale : (a b : Float) → Scale a → Scale b → lt a b ≡ false → lt b a ≡ false → a ≡ b
same_scale a b s t h k =
    let f = subst (λ (x : Float). T (fits binary64 x)) (sym s.clear) s.fit in
    let g = subst (λ (x : Float). T (fits binary64 x)) (sym t.clear) t.fit in
    sym s.clear ∙ same_abs a b s.number t.number f g (rw (s.clear, t.clear) h) (rw (s.clear, t.clear) k) ∙ t.clear

-- ---- the larger of a scale and a magnitude

-- a magnitude is its own magnitude, and has its one form where the number has
abs_abs : (x : Float) → abs_of (abs_of x) ≡ abs_of x
unfolding abs_of
abs_abs nan = refl
abs_abs (inf s) = refl
abs_abs (fin s m e) = refl

abs_fits : (x : Float) → T (fits binary64 x) → T (fits binary64 (abs_of x))
unfolding abs_of fits
abs_fits nan h = h
abs_fits (inf s) h = h
abs_fits (fin s zero e) h = h
abs_fits (fin s (suc m) e) h = h

-- nothing is below itself, and no two are below each other
not_lt_self : (a : Float) → lt a a ≡ false
not_lt_self a = go (lt a a) refl
  where
    go : (t : Bool) → lt a a ≡ t → lt a a ≡ false
    go false e = e
    go true e = absurd (lt_not_self a (subst T (sym e) tt))

lt_not : (a b : Float) → lt a b ≡ true → lt b a ≡ false
lt_not a b h = go (lt b a) refl
  where
    go : (t : Bool) → lt b a ≡ t → lt b a ≡ false
    go false e = e
    go true e = absurd (lt_not_self a (lt_le_trans a b a (subst T (sym h) tt) (lt→le b a (subst T (sym e) tt))))

-- a scale is not below zero; zero and one are scales
scale_above : {a : Float} → Scale a → lt a +0 ≡ false
scale_above {a} s = rw s.clear at (abs_above a)

zero_scale : Scale +0
unfolding is_nan abs_of fits of_bits
zero_scale = record { number = refl; clear = refl; fit = tt }

one_scale : Scale one
unfolding is_nan abs_of fits of_bits
one_scale = record { number = refl; clear = refl; fit = tt }

module _ (a x : Float) (s : Scale a) where
  -- what holds of a, and of the magnitude where that is above, holds of the larger
  step_ind : (P : Float → Type 0) → P a → (lt a (abs_of x) ≡ true → P (abs_of x)) → P (max_of a (abs_of x))
  step_ind P p q = subst P (larger_max a (abs_of x) s.number) (cond_test P (lt a (abs_of x)) q (λ l. p))

  -- it is a scale, below nothing that a is not below, not below the magnitude, and at most what both are at most
  step_scale : T (fits binary64 x) → Scale (max_of a (abs_of x))
  step_scale f =
      record {
        number = (step_not_below a x (record { number = s.number; above = scale_above s })).number;
        clear = step_ind (λ (r : Float). abs_of r ≡ r) s.clear (λ l. abs_abs x);
        fit = step_ind (λ (r : Float). T (fits binary64 r)) s.fit (λ l. abs_fits x f);
      }

  step_keeps : (y : Float) → lt a y ≡ false → lt (max_of a (abs_of x)) y ≡ false
  step_keeps y h = step_ind (λ (r : Float). lt r y ≡ false) h (λ l. not_lt_trans (abs_of x) a y s.number (lt_not a (abs_of x) l) h)

  step_over : lt (max_of a (abs_of x)) (abs_of x) ≡ false
  step_over = subst (λ (r : Float). lt r (abs_of x) ≡ false) (larger_max a (abs_of x) s.number) (cond_test (λ (r : Float). lt r (abs_of x) ≡ false) (lt a (abs_of x)) (λ l. not_lt_self (abs_of x)) (λ l. l))

  step_under : (b : Float) → lt b a ≡ false → lt b (abs_of x) ≡ false → lt b (max_of a (abs_of x)) ≡ false
  step_under b h k = step_ind (λ (r : Float). lt b r ≡ false) h (λ l. k)

-- ---- the scale of a matrix of floats in their one form

-- r is the scale of a and of the first k entries of row i
record Row (n : ℕ) (m : List Float) (i : ℕ) (a : Float) (k : ℕ) (r : Float) : Type 0 where
  scale : Scale r
  keeps : (y : Float) → lt a y ≡ false → lt r y ≡ false
  over : (j : ℕ) → j < k → lt r (abs_of (entry m i j)) ≡ false
  under : (b : Float) → lt b a ≡ false → ((j : ℕ) → j < n → lt b (abs_of (entry m i j)) ≡ false) → lt b r ≡ false

-- r is the scale of the first k rows
record Rows (n : ℕ) (m : List Float) (k : ℕ) (r : Float) : Type 0 where
  scale : Scale r
  over : (i : ℕ) → i < k → (j : ℕ) → j < n → lt r (abs_of (entry m i j)) ≡ false
  under : (b : Float) → lt b +0 ≡ false → ((i : ℕ) → i < n → (j : ℕ) → j < n → lt b (abs_of (entry m i j)) ≡ false) → lt b r ≡ false

module _ (n : ℕ) (m : List Float) (fit : (k : ℕ) → T (fits binary64 (at m k))) where
  -- one row, turn by turn
  row_scale : (i : ℕ) (a : Float) → Scale a → Row n m i a n (row_scale_of n m i a)
  unfolding row_scale_of
  row_scale i a s =
      for_ind (λ j acc. max_of acc (abs_of (entry m i j))) (Row n m i a) n
      (λ j r l w. record {
        scale = step_scale r (entry m i j) w.scale (fit (i * 6 + j));
        keeps = λ y h. step_keeps r (entry m i j) w.scale y (w.keeps y h);
        over = below_next (λ (k : ℕ). lt (max_of r (abs_of (entry m i j))) (abs_of (entry m i k)) ≡ false) j (λ k q. step_keeps r (entry m i j) w.scale (abs_of (entry m i k)) (w.over k q)) (step_over r (entry m i j) w.scale);
        under = λ b h k. step_under r (entry m i j) w.scale b (w.under b h k) (k j l);
      })
      a
      (record { scale = s; keeps = λ y h. h; over = λ j l. absurd (omega arith); under = λ b h k. h })

  -- all rows
  whole_scale : Rows n m n (scale_of n m)
  unfolding scale_of
  whole_scale =
      for_ind (λ i acc. row_scale_of n m i acc) (Rows n m) n
      (λ i r l w.
      let v = row_scale i r w.scale in
      record {
        scale = v.scale;
        over = below_next (λ (k : ℕ). (j : ℕ) → j < n → lt (row_scale_of n m i r) (abs_of (entry m k j)) ≡ false) i (λ k q j p. v.keeps (abs_of (entry m k j)) (w.over k q j p)) v.over;
        under = λ b h k. v.under b (w.under b h k) (k i l);
      })
      +0
      (record { scale = zero_scale; over = λ i l. absurd (omega arith); under = λ b h k. h })

-- ---- the entries of a face's matrix

-- what holds of each element of a list
data All (P : Float → Type 0) : List Float → Type 0 where
  none : All P []
  more : {x : Float} {l : List Float} → P x → All P l → All P (x ∷ l)

-- so of whatever is read, where NaN is read behind the end
all_at : (P : Float → Type 0) {l : List Float} → All P l → P nan → (k : ℕ) → P (at l k)
all_at P none q k = q
all_at P (more p a) q zero = p
all_at P (more p a) q (suc k) = all_at P a q k

all_same : (P : Float → Type 0) (n : ℕ) {a : Float} → P a → All P (replicate n a)
all_same P zero p = none
all_same P (suc n) p = more p (all_same P n p)

-- what holds of the elements of a list and of a new one holds after `set`
at_set : (P : Float → Type 0) (l : List Float) (i : ℕ) (a : Float) (k : ℕ) → P a → P (at l k) → P (at (set l i a) k)
at_set P [] i a k p q = q
at_set P (x ∷ l) zero a zero p q = p
at_set P (x ∷ l) zero a (suc k) p q = q
at_set P (x ∷ l) (suc i) a zero p q = q
at_set P (x ∷ l) (suc i) a (suc k) p q = at_set P l i a k p q

-- what holds of the elements of the block and of the constraints holds of the matrix's
at_kkt : (P : Float → Type 0) (base g : List Float) (u : ℕ) (f : Face) → ((k : ℕ) → P (at g k)) → ((k : ℕ) → P (at base k)) → (k : ℕ) → P (at (kkt_of base g u f) k)
unfolding kkt_of slot_of
at_kkt P base g u f p q =
    for_keeps (λ (m : List Float). (k : ℕ) → P (at m k)) _ f.size
    (λ slot l m h.
    for_keeps (λ (m : List Float). (k : ℕ) → P (at m k)) _ u
    (λ j l m h k.
    let v = p (member_of f slot * 3 + j) in
    let r = (u + slot) * 6 + j in
    at_set P (set m r (at g (member_of f slot * 3 + j))) (j * 6 + (u + slot)) (at g (member_of f slot * 3 + j)) k v (at_set P m r (at g (member_of f slot * 3 + j)) k v (h k)))
    m h)
    base
    q

-- the matrix has the block's entries where the block has them
block_kept : (base g : List Float) (f : Face) → f.size ≤ 3 → (i : ℕ) → i < 3 → (j : ℕ) → j < 3 → entry (kkt_of base g 3 f) i j ≡ entry base i j
unfolding kkt_of slot_of
block_kept base g f s i p j q =
    for_keeps (λ (m : List Float). entry m i j ≡ entry base i j) _ f.size
    (λ slot l m h.
    for_keeps (λ (m : List Float). entry m i j ≡ entry base i j) _ 3
    (λ c k m h. get_or-set_other (set m ((3 + slot) * 6 + c) _) (c * 6 + (3 + slot)) (i * 6 + j) _ nan (λ e. omega arith) ∙ get_or-set_other m ((3 + slot) * 6 + c) (i * 6 + j) _ nan (λ e. omega arith) ∙ h)
    m h)
    base
    refl

-- what holds at 0, 1 and 2
each_of_three : (P : ℕ → Type 0) → P 0 → P 1 → P 2 → (j : ℕ) → j < 3 → P j
each_of_three P p q r zero l = p
each_of_three P p q r (suc zero) l = q
each_of_three P p q r (suc (suc zero)) l = r
each_of_three P p q r (suc (suc (suc j))) l = absurd (omega arith)

abbrev face : ℕ → ℕ → ℕ → ℕ → Face
face s x y z = record { size = s; a = x; b = y; c = z }

-- and the first constraint in row 3
first_row : (b g : List Float) (s x y z : ℕ) → 0 < s → s ≤ 3 → (j : ℕ) → j < 3 → entry (kkt_of (block_of b) g 3 (face s x y z)) 3 j ≡ at g (x * 3 + j)
unfolding kkt_of slot_of turns
first_row b g zero x y z h k = absurd (omega arith)
first_row b g (suc zero) x y z h k = each_of_three (λ j. entry (kkt_of (block_of b) g 3 (face 1 x y z)) 3 j ≡ at g (x * 3 + j)) refl refl refl
first_row b g (suc (suc zero)) x y z h k = each_of_three (λ j. entry (kkt_of (block_of b) g 3 (face 2 x y z)) 3 j ≡ at g (x * 3 + j)) refl refl refl
first_row b g (suc (suc (suc zero))) x y z h k = each_of_three (λ j. entry (kkt_of (block_of b) g 3 (face 3 x y z)) 3 j ≡ at g (x * 3 + j)) refl refl refl
first_row b g (suc (suc (suc (suc s)))) x y z h k = absurd (omega arith)

-- ---- the constraints: entries +0, one and minus one

-- what holds of the three holds of all seven rows
all_rows : (P : Float → Type 0) → P +0 → P one → P (neg one) → All P rows_of
all_rows P o p q =
    more o (more o (more q
    (more o (more p (more q
    (more o (more q (more q
    (more o (more p (more p
    (more o (more q (more p
    (more q (more o (more o
    (more p (more o (more o none))))))))))))))))))))

-- each constraint has an entry of magnitude one
one_of : (P : Float → Type 0) (c : ℕ) → c < 7 → ((j : ℕ) → j < 3 → P (abs_of (at rows_of (c * 3 + j)))) → P one
unfolding abs_of neg of_bits
one_of P zero l h = h 2 (omega arith)
one_of P (suc zero) l h = h 2 (omega arith)
one_of P (suc (suc zero)) l h = h 2 (omega arith)
one_of P (suc (suc (suc zero))) l h = h 2 (omega arith)
one_of P (suc (suc (suc (suc zero)))) l h = h 2 (omega arith)
one_of P (suc (suc (suc (suc (suc zero))))) l h = h 0 (omega arith)
one_of P (suc (suc (suc (suc (suc (suc zero)))))) l h = h 0 (omega arith)
one_of P (suc (suc (suc (suc (suc (suc (suc c))))))) l h = absurd (omega arith)

-- what holds of the nine numbers of the block holds of all of it
all_block : (P : Float → Type 0) (b : List Float) → P +0 → P (at b 0) → P (at b 1) → P (at b 2) → P (at b 4) → P (at b 5) → P (at b 6) → P (at b 8) → P (at b 9) → P (at b 10) → All P (block_of b)
all_block P b o p0 p1 p2 p4 p5 p6 p8 p9 p10 =
    more p0 (more p1 (more p2 (more o (more o (more o
    (more p4 (more p5 (more p6 (more o (more o (more o
    (more p8 (more p9 (more p10 (more o (more o (more o
    (all_same P 18 o))))))))))))))))))

-- ---- the scale of a face

-- the magnitudes
one_abs : abs_of one ≡ one
unfolding abs_of of_bits
one_abs = refl

minus_abs : abs_of (neg one) ≡ one
unfolding abs_of neg of_bits
minus_abs = refl

zero_abs : abs_of +0 ≡ +0
unfolding abs_of of_bits
zero_abs = refl

not_below_nan : (a : Float) → lt a (abs_of nan) ≡ false
unfolding lt abs_of
not_below_nan nan = refl
not_below_nan (inf s) = refl
not_below_nan (fin s m e) = refl

-- the constraints have their one form
rows_fit : (k : ℕ) → T (fits binary64 (at rows_of k))
unfolding fits neg of_bits
rows_fit = all_at (λ (x : Float). T (fits binary64 x)) (all_rows (λ (x : Float). T (fits binary64 x)) tt tt tt) tt

module _ (b : List Float) (fit : (k : ℕ) → T (fits binary64 (at (block_of b) k))) (f : Face) (good : Good 3 7 f) (some : 0 < f.size) where
  -- the face's scale and the larger of the block's and one: neither is below the other
  face_scale : scale_of (3 + f.size) (kkt_of (block_of b) rows_of 3 f) ≡ other_scale b
  face_scale =
      let n = 3 + f.size in
      let m = kkt_of (block_of b) rows_of 3 f in
      let r = scale_of n m in
      let e = empty_scale b in
      let s = other_scale b in
      let block : Rows 3 (block_of b) 3 e = whole_scale 3 (block_of b) fit in
      let whole : Rows n m n r = whole_scale n m (at_kkt (λ (x : Float). T (fits binary64 x)) (block_of b) rows_of 3 f rows_fit fit) in
      let s-scale : Scale s = cond_ind Scale (lt e one) one_scale block.scale in
      let over-one : lt s one ≡ false = cond_test (λ (x : Float). lt x one ≡ false) (lt e one) (λ l. not_lt_self one) (λ l. l) in
      let over-block : lt s e ≡ false = cond_test (λ (x : Float). lt x e ≡ false) (lt e one) (λ l. lt_not e one l) (λ l. not_lt_self e) in
      let under : (x : Float) → lt e (abs_of x) ≡ false → lt s (abs_of x) ≡ false = λ x h. not_lt_trans s e (abs_of x) block.scale.number over-block h in
      let at_block : (i : ℕ) → i < 3 → (j : ℕ) → j < 3 → lt s (abs_of (entry (block_of b) i j)) ≡ false = λ i p j q. under (entry (block_of b) i j) (block.over i p j q) in
      let not_zero : lt s (abs_of +0) ≡ false = rw zero_abs (scale_above s-scale) in
      let P : Float → Type 0 = λ x. lt s (abs_of x) ≡ false in
      let above : lt s r ≡ false =
      whole.under s (scale_above s-scale)
      (λ i p j q.
      at_kkt P (block_of b) rows_of 3 f
      (all_at P (all_rows P not_zero (rw one_abs over-one) (rw minus_abs over-one)) (not_below_nan s))
      (all_at P
      (all_block P b not_zero (at_block 0 (omega arith) 0 (omega arith)) (at_block 0 (omega arith) 1 (omega arith)) (at_block 0 (omega arith) 2 (omega arith))
      (at_block 1 (omega arith) 0 (omega arith)) (at_block 1 (omega arith) 1 (omega arith)) (at_block 1 (omega arith) 2 (omega arith))
      (at_block 2 (omega arith) 0 (omega arith)) (at_block 2 (omega arith) 1 (omega arith)) (at_block 2 (omega arith) 2 (omega arith)))
      (not_below_nan s))
      (i * 6 + j)) in
      let not-one : lt r one ≡ false =
      one_of (λ (x : Float). lt r x ≡ false) f.a good.a
      (λ j l. subst (λ (x : Float). lt r (abs_of x) ≡ false) (first_row b rows_of f.size f.a f.b f.c some good.size j l) (whole.over 3 (omega arith) j (omega arith))) in
      let not-block : lt r e ≡ false =
      block.under r (scale_above whole.scale)
      (λ i p j q. subst (λ (x : Float). lt r (abs_of x) ≡ false) (block_kept (block_of b) rows_of f good.size i p j q) (whole.over i (omega arith) j (omega arith))) in
      same_scale r s whole.scale s-scale (cond_ind (λ (x : Float). lt r x ≡ false) (lt e one) not-one not-block) above

-- ---- every face but the empty one

-- a product has its one form
doubled_fit : (n : Normal) (k : ℕ) → T (fits binary64 (at (block_of (doubled_of n)) k))
doubled_fit n =
    let P : Float → Type 0 = λ x. T (fits binary64 x) in
    let d : (x : Float) → P (two *f x) = λ x. mul-fits binary64 two x in
    all_at P
    (all_block P (doubled_of n) zero_scale.fit (d n.a.q0) (d n.a.q1) (d n.a.q2) (d n.d.q0) (d n.d.q1) (d n.d.q2) (d n.c.q0) (d n.c.q1) (d n.c.q2))
    (nan-fits binary64)

pub scaled : (n : Normal) → Scaled (doubled_of n) (other_scale (doubled_of n))
scaled n t h l = face_scale (doubled_of n) (doubled_fit n) (face_at 3 7 t) (fit_order.good t l) (face_some t h l)
