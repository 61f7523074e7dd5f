-- The elimination in six rows of eight does to a system of n unknowns, in the last n rows and columns, what the plain one does to it: they refuse alike, count alike, and
-- agree in all that the substitution back reads. Assumes nothing.
use mathlib.Core.Path.{◌≡◌, refl, sym, ap, ap₂, subst, ◌∙◌}
use mathlib.Core.Bool.{Bool, true, false, cond}
use mathlib.Core.List.{List}
use Prim.Native.Nat.{ℕ, ◌+◌, ◌-◌, ◌*◌, ◌≤◌, ◌<◌, min}
use native.Mathlib.Omega.{arith}
use lib.Dec.{leb}
use lib.ListN.{length, set, length-set}
use lib.Seq.{get_or-set_same, get_or-set_other}
use lib.Ieee.{Float, nan, le, eq}
use borrow.Author.Tests.{le-leb, lt-leb}
use Rattle.laws.specs.Loop.{turns, for}
use Rattle.laws.specs.Floats.{◌-f◌, ◌*f◌, ◌/f◌, +0, at, abs_of}
use Rattle.laws.proofs.Choices.{false_true}
use Rattle.solver.specs.Solve.{
  System,
  after,
  standing,
  entry,
  ranked,
  exchange,
  swap_rows,
  swapped,
  minus_of,
  factor_of,
  row_done,
  below_of,
  pivot_row_of,
  pivoted,
  column_of,
  eliminated_of,
}
use Rattle.solver.specs.Rows.{Reduced, room, reduced, spot, pivot_in, swap_in, less_in, row_in, clear_in, raised_in, cleared_in, column_in, from_in}
use Rattle.solver.proofs.Segments.{by_eq, Rewritten, rewritten, Exchanged, exchanged, for_both, turns_skip}
use Rattle.solver.proofs.Views.{Stands, Stepped}

-- ---- the loops over one row

-- the plain form's row less a multiple of row col, which is not touched
minus_is : (n col row : ℕ) (φ : Float) (m : List Float) → n ≤ 6 → col ≤ n → row < 6 → (row ≡ col → ⊥) → length m ≡ 36
    → Rewritten (row * 6) col n (λ j. entry m row j -f φ *f entry m col j) m (minus_of n col row φ m)
unfolding minus_of
minus_is n col row φ m p q r ne e =
    rewritten (row * 6) col n (λ j l. entry l row j -f φ *f entry l col j) (λ j. entry m row j -f φ *f entry m col j) m q (omega arith)
    (λ j l a b w.
    ap₂ (λ (x y : Float). x -f φ *f y) (w.outside (row * 6 + j) (λ i c d k. omega arith)) (w.outside (col * 6 + j) (λ i c d k. ne (omega arith))))

-- and that of the rows of eight
less_is : (col row : ℕ) (φ : Float) (t : List Float) → col < 6 → row < 6 → (row ≡ col → ⊥) → length t ≡ 48
    → Rewritten (row * 8) (col + 1) 7 (λ j. spot t row j -f φ *f spot t col j) t (less_in col row φ t)
unfolding less_in
less_is col row φ t p r ne e =
    rewritten (row * 8) (col + 1) 7 (λ j l. spot l row j -f φ *f spot l col j) (λ j. spot t row j -f φ *f spot t col j) t (omega arith) (omega arith)
    (λ j l a b w.
    ap₂ (λ (x y : Float). x -f φ *f y) (w.outside (row * 8 + j) (λ i c d k. omega arith)) (w.outside (col * 8 + j) (λ i c d k. ne (omega arith))))

-- two rows of six change places
rows_exchanged : (m : List Float) (a b : ℕ) → a < 6 → b < 6 → length m ≡ 36 → Exchanged (a * 6) (b * 6) 0 6 m (swap_rows m a b)
unfolding swap_rows
rows_exchanged m a b p q e = exchanged (a * 6) (b * 6) 0 6 m (omega arith) (omega arith) (omega arith) (λ i j c d k. omega arith)

-- and two rows of eight, from column a on
in_exchanged : (t : List Float) (a b : ℕ) → a < 6 → b < 6 → length t ≡ 48 → Exchanged (a * 8) (b * 8) a 7 t (swap_in a b t)
unfolding swap_in
in_exchanged t a b p q e = exchanged (a * 8) (b * 8) a 7 t (omega arith) (omega arith) (omega arith) (λ i j c d k. omega arith)

-- two places of a list change places
module _ (l : List Float) (a b : ℕ) (p : a < length l) (q : b < length l) where
  pair_second : at (exchange l a b) b ≡ at l a
  pair_second = get_or-set_same (set l a (at l b)) b (at l a) nan (omega (arith, length-set l a (at l b)))

  pair_first : at (exchange l a b) a ≡ at l b
  pair_first =
      by_eq a b (λ e. ap (at (exchange l a b)) e ∙ pair_second ∙ ap (at l) e)
      (λ ne. get_or-set_other (set l a (at l b)) b a (at l a) nan ne ∙ get_or-set_same l a (at l b) nan p)

  pair_other : (i : ℕ) → (i ≡ a → ⊥) → (i ≡ b → ⊥) → at (exchange l a b) i ≡ at l i
  pair_other i h g = get_or-set_other (set l a (at l b)) b i (at l a) nan g ∙ get_or-set_other l a i (at l b) nan h

  pair_size : length (exchange l a b) ≡ length l
  pair_size = length-set (set l a (at l b)) b (at l a) ∙ length-set l a (at l b)

-- ---- what the two forms of a system share when col columns are done: row i from column min i col on, and the right side

pub record Live (n o col : ℕ) (m rhs t : List Float) : Type 0 where
  pub size : length m ≡ 36
  pub right : length rhs ≡ 6
  pub wide : length t ≡ 48
  pub entries : (i j : ℕ) → i < n → j < n → min i col ≤ j → entry m i j ≡ spot t (i + o) (j + o)
  pub rights : (i : ℕ) → i < n → at rhs i ≡ spot t (i + o) 6

-- and whether it still stands, and the updates
pub record Together (n o col : ℕ) (s : System) (u : Reduced) : Type 0 where
  pub ok : s.ok ≡ u.ok
  pub updates : s.updates ≡ u.updates
  pub live : s.ok ≡ true → Live n o col s.m s.rhs u.m

-- what they share while the rows below col are cleared, those from row on still to do
pub record Clearing (n o col row : ℕ) (s : System) (u : Reduced) : Type 0 where
  pub ok : s.ok ≡ true
  pub stands : u.ok ≡ true
  pub updates : s.updates ≡ u.updates
  pub live : Live n o (col + 1) s.m s.rhs u.m
  pub rest : (i : ℕ) → row ≤ i → i < n → entry s.m i col ≡ spot u.m (i + o) (col + o)

-- what holds of both arms holds of two choices by one test
cond_both : {S T : Type 0} (P : S → T → Type 0) (b : Bool) {x y : S} {z w : T} → P x z → P y w → P (cond b x y) (cond b z w)
cond_both P true p q = p
cond_both P false p q = q

module _ (n o : ℕ) (six : n + o ≡ 6) (col : ℕ) (below : col < n) where
  -- tests that agree pick rows that agree
  pick_same : (b c : Bool) (j p q : ℕ) → b ≡ c → p + o ≡ q → col ≤ p → p < n → col ≤ j → j < n → (cond b j p + o ≡ cond c (j + o) q) × (col ≤ cond b j p) × (cond b j p < n)
  pick_same true true j p q e h pl pu jl ju = (refl, jl, ju)
  pick_same false false j p q e h pl pu jl ju = (h, pl, pu)
  pick_same true false j p q e h pl pu jl ju = false_true (sym e)
  pick_same false true j p q e h pl pu jl ju = false_true e

  -- the two forms pick the same pivot
  pivot_same : (m rhs t : List Float) → Live n o col m rhs t → (pivot_row_of n m col + o ≡ pivot_in (col + o) t) × (col ≤ pivot_row_of n m col) × (pivot_row_of n m col < n)
  unfolding pivot_row_of pivot_in
  pivot_same m rhs t w =
      for_both (λ i p. cond (ranked (abs_of (entry m p col)) (abs_of (entry m i col))) i p)
      (λ i p. cond (ranked (abs_of (spot t p (col + o))) (abs_of (spot t i (col + o)))) i p)
      (λ (j p q : ℕ). (p + o ≡ q) × (col ≤ p) × (p < n)) (col + 1) n o step (col + o + 1) 6 col (col + o) (omega arith) (omega arith) (omega arith) (refl, omega arith, omega arith)
    where
      step : (j p q : ℕ) → col + 1 ≤ j → j < n → (p + o ≡ q) × (col ≤ p) × (p < n)
          → (cond (ranked (abs_of (entry m p col)) (abs_of (entry m j col))) j p + o ≡ cond (ranked (abs_of (spot t q (col + o))) (abs_of (spot t (j + o) (col + o)))) (j + o) q)
          × (col ≤ cond (ranked (abs_of (entry m p col)) (abs_of (entry m j col))) j p) × (cond (ranked (abs_of (entry m p col)) (abs_of (entry m j col))) j p < n)
      step j p q c d r =
          pick_same (ranked (abs_of (entry m p col)) (abs_of (entry m j col))) (ranked (abs_of (spot t q (col + o))) (abs_of (spot t (j + o) (col + o)))) j p q
          (ap₂ (λ (x y : Float). ranked (abs_of x) (abs_of y)) (w.entries p col r.2 below (omega arith) ∙ ap (λ (i : ℕ). spot t i (col + o)) r.0) (w.entries j col d below (omega arith)))
          r.0 r.1 r.2 (omega arith) d

  -- after the exchange of two rows from col on they still agree
  swap_live : (p : ℕ) (m rhs t : List Float) → col ≤ p → p < n → Live n o col m rhs t → Live n o col (swap_rows m col p) (exchange rhs col p) (swap_in (col + o) (p + o) t)
  swap_live p m rhs t c d w =
      record {
        size = M.size ∙ w.size;
        right = pair_size rhs col p cr pr ∙ w.right;
        wide = Q.size ∙ w.wide;
        entries = λ i j a b l.
            by_eq i col (λ e. rw e (M.first j (omega arith) (omega arith) ∙ w.entries p j d b (omega arith) ∙ sym (Q.first (j + o) (omega arith) (omega arith))))
            (λ ne. by_eq i p (λ e. rw e (M.second j (omega arith) (omega arith) ∙ w.entries col j below b (omega arith) ∙ sym (Q.second (j + o) (omega arith) (omega arith))))
            (λ nf. M.outside (i * 6 + j) (λ k g h e. ne (omega arith)) (λ k g h e. nf (omega arith)) ∙ w.entries i j a b l
            ∙ sym (Q.outside ((i + o) * 8 + (j + o)) (λ k g h e. ne (omega arith)) (λ k g h e. nf (omega arith)))));
        rights = λ i a.
            by_eq i col (λ e. rw e (pair_first rhs col p cr pr ∙ w.rights p d ∙ sym (Q.first 6 (omega arith) (omega arith))))
            (λ ne. by_eq i p (λ e. rw e (pair_second rhs col p cr pr ∙ w.rights col below ∙ sym (Q.second 6 (omega arith) (omega arith))))
            (λ nf. pair_other rhs col p cr pr i ne nf ∙ w.rights i a
            ∙ sym (Q.outside ((i + o) * 8 + 6) (λ k g h e. ne (omega arith)) (λ k g h e. nf (omega arith)))));
      }
    where
      M : Exchanged (col * 6) (p * 6) 0 6 m (swap_rows m col p)
      M = rows_exchanged m col p (omega arith) (omega arith) w.size

      Q : Exchanged ((col + o) * 8) ((p + o) * 8) (col + o) 7 t (swap_in (col + o) (p + o) t)
      Q = in_exchanged t (col + o) (p + o) (omega arith) (omega arith) w.wide

      cr : col < length rhs
      cr = omega (arith, w.right)

      pr : p < length rhs
      pr = omega (arith, w.right)

  -- a row is cleared, whatever the factor
  row_clear : (row : ℕ) (φ : Float) (s : System) (u : Reduced) → col + 1 ≤ row → row < n → Clearing n o col row s u
      → Clearing n o col (row + 1) (after s.ok (minus_of n col row φ s.m) (set s.rhs row (at s.rhs row -f φ *f at s.rhs col)) (s.updates + (n - col)))
      (reduced u.ok (less_in (col + o) (row + o) φ u.m) (u.updates + (6 - (col + o))))
  row_clear row φ s u c d w =
      record {
        ok = w.ok;
        stands = w.stands;
        updates = omega (arith, w.updates);
        live =
            record {
              size = M.size ∙ l.size;
              right = length-set s.rhs row (at s.rhs row -f φ *f at s.rhs col) ∙ l.right;
              wide = Q.size ∙ l.wide;
              entries = λ i j a b h.
                  by_eq i row
                  (λ e. rw e (M.inside j (omega arith) b
                  ∙ ap₂ (λ (x y : Float). x -f φ *f y) (l.entries row j d b (omega arith)) (l.entries col j below b (omega arith)) ∙ sym (Q.inside (j + o) (omega arith) (omega arith))))
                  (λ ne. kept i j (omega arith) ne ∙ l.entries i j a b h ∙ sym (wide_kept i (j + o) (omega arith) ne));
              rights = λ i a.
                  by_eq i row
                  (λ e. rw e (get_or-set_same s.rhs row (at s.rhs row -f φ *f at s.rhs col) nan (omega (arith, l.right))
                  ∙ ap₂ (λ (x y : Float). x -f φ *f y) (l.rights row d) (l.rights col below) ∙ sym (Q.inside 6 (omega arith) (omega arith))))
                  (λ ne. get_or-set_other s.rhs row i (at s.rhs row -f φ *f at s.rhs col) nan ne ∙ l.rights i a ∙ sym (wide_kept i 6 (omega arith) ne));
            };
        rest = λ i a b. kept i col (omega arith) (λ e. omega arith) ∙ w.rest i (omega arith) b ∙ sym (wide_kept i (col + o) (omega arith) (λ e. omega arith));
      }
    where
      t : List Float
      t = u.m

      l : Live n o (col + 1) s.m s.rhs t
      l = w.live

      M : Rewritten (row * 6) col n (λ j. entry s.m row j -f φ *f entry s.m col j) s.m (minus_of n col row φ s.m)
      M = minus_is n col row φ s.m (omega arith) (omega arith) (omega arith) (λ e. omega arith) l.size

      Q : Rewritten ((row + o) * 8) (col + o + 1) 7 (λ j. spot t (row + o) j -f φ *f spot t (col + o) j) t (less_in (col + o) (row + o) φ t)
      Q = less_is (col + o) (row + o) φ t (omega arith) (omega arith) (λ e. omega arith) l.wide

      kept : (i j : ℕ) → j < 6 → (i ≡ row → ⊥) → entry (minus_of n col row φ s.m) i j ≡ entry s.m i j
      kept i j a ne = M.outside (i * 6 + j) (λ k g h e. ne (omega arith))

      wide_kept : (i j : ℕ) → j < 7 → (i ≡ row → ⊥) → spot (less_in (col + o) (row + o) φ t) (i + o) j ≡ spot t (i + o) j
      wide_kept i j a ne = Q.outside ((i + o) * 8 + j) (λ k g h e. ne (omega arith))

  -- one row of both forms
  row_same : (row : ℕ) (φ : Float) (s : System) (u : Reduced) → col + 1 ≤ row → row < n → Clearing n o col row s u
      → Clearing n o col (row + 1) (row_done n col row φ s) (row_in (col + o) (row + o) φ u)
  unfolding row_done row_in
  row_same row φ s u c d w =
      cond_both (Clearing n o col (row + 1)) (eq φ +0)
      (record { ok = w.ok; stands = w.stands; updates = w.updates; live = w.live; rest = λ i a b. w.rest i (omega arith) b })
      (row_clear row φ s u c d w)

  -- all rows below col
  below_same : (s : System) (u : Reduced) → Clearing n o col (col + 1) s u → Clearing n o col n (below_of n col s) (clear_in (col + o) u)
  unfolding below_of clear_in
  below_same s u w =
      for_both (λ row s. row_done n col row (factor_of col row s.m) s) (λ row u. row_in (col + o) row (spot u.m row (col + o) /f spot u.m (col + o) (col + o)) u)
      (Clearing n o col) (col + 1) n o
      (λ row s u c d w.
      subst (λ (φ : Float). Clearing n o col (row + 1) (row_done n col row (factor_of col row s.m) s) (row_in (col + o) (row + o) φ u))
      (ap₂ ◌/f◌ (w.rest row (omega arith) d) (w.live.entries col col below below (omega arith)))
      (row_same row (factor_of col row s.m) s u c d w))
      (col + o + 1) 6 s u (omega arith) (omega arith) (omega arith) w

  -- the rows have changed places, and those below are to be cleared
  clearing_starts : (p : ℕ) (s : System) (t : List Float) (k : ℕ) → s.ok ≡ true → s.updates ≡ k → col ≤ p → p < n → Live n o col s.m s.rhs t
      → Clearing n o col (col + 1) (swapped s col p) (reduced true (swap_in (col + o) (p + o) t) k)
  clearing_starts p s t k e f c d w =
      let l : Live n o col (swap_rows s.m col p) (exchange s.rhs col p) (swap_in (col + o) (p + o) t) = swap_live p s.m s.rhs t c d w in
      record {
        ok = e;
        stands = refl;
        updates = f;
        live = record { size = l.size; right = l.right; wide = l.wide; entries = λ i j a b h. l.entries i j a b (omega arith); rights = l.rights };
        rest = λ i a b. l.entries i col b below (omega arith);
      }

  -- the pivot is in row p: both refuse, or both go on
  raised_same : (p : ℕ) (s : System) (t : List Float) (k : ℕ) (b c : Bool) → b ≡ c → s.ok ≡ true → s.updates ≡ k → col ≤ p → p < n → Live n o col s.m s.rhs t
      → Together n o (col + 1) (cond b (after false s.m s.rhs s.updates) (below_of n col (swapped s col p)))
      (cleared_in (col + o) (cond c (room false t) (room true (swap_in (col + o) (p + o) t))) k)
  unfolding cleared_in
  raised_same p s t k true true h e f c d w = record { ok = refl; updates = f; live = λ z. false_true z }
  raised_same p s t k false false h e f c d w =
      let z : Clearing n o col n (below_of n col (swapped s col p)) (clear_in (col + o) (reduced true (swap_in (col + o) (p + o) t) k)) =
      below_same (swapped s col p) (reduced true (swap_in (col + o) (p + o) t) k) (clearing_starts p s t k e f c d w) in
      record { ok = z.ok ∙ sym z.stands; updates = z.updates; live = λ q. z.live }
  raised_same p s t k true false h e f c d w = false_true (sym h)
  raised_same p s t k false true h e f c d w = false_true h

  -- the pivot is found: both refuse, or both go on
  pivoted_same : (limit : Float) (s : System) (t : List Float) (k : ℕ) → s.ok ≡ true → s.updates ≡ k → Live n o col s.m s.rhs t
      → Together n o (col + 1) (pivoted n limit col (pivot_row_of n s.m col) s) (cleared_in (col + o) (raised_in limit (col + o) (pivot_in (col + o) t) t) k)
  unfolding pivoted raised_in
  pivoted_same limit s t k e f w =
      let p : ℕ = pivot_row_of n s.m col in
      let z : (p + o ≡ pivot_in (col + o) t) × (col ≤ p) × (p < n) = pivot_same s.m s.rhs t w in
      subst (λ (q : ℕ). Together n o (col + 1) (pivoted n limit col (pivot_row_of n s.m col) s) (cleared_in (col + o) (raised_in limit (col + o) q t) k)) z.0
      (raised_same p s t k (le (abs_of (entry s.m p col)) limit) (le (abs_of (spot t (p + o) (col + o))) limit)
      (ap (λ (x : Float). le (abs_of x) limit) (w.entries p col z.2 below (omega arith))) e f z.1 z.2 w)

  -- a system that stands has its column done, a refused one is passed on
  standing_same : (limit : Float) (s : System) (u : Reduced) (b c : Bool) → b ≡ c → s.ok ≡ b → Together n o col s u
      → Together n o (col + 1) (cond b (pivoted n limit col (pivot_row_of n s.m col) s) s)
      (cond c (cleared_in (col + o) (raised_in limit (col + o) (pivot_in (col + o) u.m) u.m) u.updates) u)
  standing_same limit s u true true h e w = pivoted_same limit s u.m u.updates e w.updates (w.live e)
  standing_same limit s u false false h e w = record { ok = w.ok; updates = w.updates; live = λ k. false_true (sym e ∙ k) }
  standing_same limit s u true false h e w = false_true (sym h)
  standing_same limit s u false true h e w = false_true h

  -- one column of both forms
  column_same : (limit : Float) (s : System) (u : Reduced) → Together n o col s u
      → Together n o (col + 1) (column_of n limit col s) (cond (leb 6 (n + (col + o))) (column_in limit (col + o) u) u)
  unfolding column_of column_in
  column_same limit s u w =
      subst (λ (b : Bool). Together n o (col + 1) (column_of n limit col s) (cond b (column_in limit (col + o) u) u)) (sym (le-leb 6 (n + (col + o)) (omega arith)))
      (standing_same limit s u s.ok u.ok w.ok refl w)

-- the columns before the system's own are passed over
passed_over : (n o : ℕ) (limit : Float) (u : Reduced) → n + o ≡ 6 → from_in 0 n limit u ≡ for o 6 (λ col s. cond (leb 6 (n + col)) (column_in limit col s) s) u
unfolding from_in
passed_over n o limit u six =
    let f : ℕ → Reduced → Reduced = λ col s. cond (leb 6 (n + col)) (column_in limit col s) s in
    let e : 6 - 0 ≡ o + (6 - o) = omega arith in
    let d : 0 + o ≡ o = omega arith in
    ap (λ (k : ℕ). turns f k 0 u) e
    ∙ turns_skip f o 0 (6 - o) u (λ j p q. ap (λ (b : Bool). cond b (column_in limit j u) u) (lt-leb 6 (n + j) (omega arith)))
    ∙ ap (λ (k : ℕ). turns f (6 - o) k u) d

-- ---- the whole

-- the two forms of an eliminated system: refused alike, as many updates, and the same in what is read later
pub record Same (n o : ℕ) (s : System) (u : Reduced) : Type 0 where
  pub ok : s.ok ≡ u.ok
  pub updates : s.updates ≡ u.updates
  pub stepped : s.ok ≡ true → Stepped n o s.m s.rhs u.m

-- all columns of both forms
columns_same : (n o : ℕ) (limit : Float) (s : System) (u : Reduced) → n + o ≡ 6 → Together n o 0 s u
    → Together n o n (eliminated_of n limit s) (for o 6 (λ col s. cond (leb 6 (n + col)) (column_in limit col s) s) u)
unfolding eliminated_of
columns_same n o limit s u six w =
    for_both (λ col s. column_of n limit col s) (λ col s. cond (leb 6 (n + col)) (column_in limit col s) s) (Together n o) 0 n o
    (λ col s u p q w. column_same n o six col q limit s u w) o 6 s u (omega arith) (omega arith) (omega arith) w

-- the elimination in six rows of eight is the plain one
pub eliminated : (n o : ℕ) (limit : Float) (m rhs t : List Float) → n + o ≡ 6 → 0 < n → length m ≡ 36 → length rhs ≡ 6 → length t ≡ 48 → Stands n o m rhs t
    → Same n o (eliminated_of n limit (standing m rhs)) (from_in 0 n limit (reduced true t 0))
eliminated n o limit m rhs t six pos a b c w =
    subst (Same n o (eliminated_of n limit (standing m rhs))) (sym (passed_over n o limit (reduced true t 0) six))
    (record {
      ok = k.ok;
      updates = k.updates;
      stepped = λ e. record { entries = λ i j p q. (k.live e).entries i j (omega arith) q (omega arith); rights = (k.live e).rights };
    })
  where
    k : Together n o n (eliminated_of n limit (standing m rhs)) (for o 6 (λ col s. cond (leb 6 (n + col)) (column_in limit col s) s) (reduced true t 0))
    k =
        columns_same n o limit (standing m rhs) (reduced true t 0) six
        (record { ok = refl; updates = refl; live = λ e. record { size = a; right = b; wide = c; entries = λ i j p q l. w.entries i j p q; rights = w.rights } })
