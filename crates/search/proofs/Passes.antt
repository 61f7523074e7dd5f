-- One pass: its counts, that its best is as good as each of its cells, and where that stands. Assumes nothing.
use mathlib.Core.Path.{◌≡◌, refl}
use mathlib.Core.Bool.{Bool, true, false, not, ◌||◌, cond}
use Prim.Native.Nat.{ℕ, ◌+◌, ◌*◌, ◌<◌}
use native.Mathlib.Omega.{arith}
use native.Mathlib.Nat.{not-suc-le-zero, add-mul, one-mul, zero-mul}
use lib.Dec.{T}
use lib.Ieee.{Float, lt, le, is_nan}
use Rattle.laws.specs.Loop.{for}
use Rattle.laws.proofs.Loops.{for_ind, for_keeps, below_next}
use Rattle.laws.proofs.Better as Better
use Rattle.laws.proofs.Better.{taken_new, taken_old}
use Rattle.laws.proofs.Choices.{cond_ind}
use Rattle.laws.proofs.Order.{lt_le_trans, lt_or, lt→le}
use Rattle.cell.specs.declared.Cell.{Cell}
use Rattle.cell.specs.Cell.{no_cell}
use Rattle.moves.specs.declared.Window.{Window}
use Rattle.moves.specs.declared.PassBest.{PassBest}
use Rattle.moves.specs.Moves.{improves}
use Rattle.search.specs.Search.{CellFn, better, consider, no_best, grid_row, pass_of, cell_at}
use Rattle.laws.specs.Loop.{sum}
use Rattle.laws.proofs.Sums.{sum_none, sum_next}

-- ---- the better of two cells

-- b is as good as c: where c has a face, b has one too, and c's objective is not below b's
abbrev pub AsGood : Cell → Cell → Type 0
AsGood = Better.AsGood (λ (c : Cell). c.some) (λ (c : Cell). c.objective)

-- a cell with a face has an objective that is no NaN
abbrev pub Proper : Cell → Type 0
Proper c = T c.some → T (not (is_nan c.objective))

better_new : (c b : Cell) → AsGood (cond (better c b) c b) c
better_new = taken_new (λ (c : Cell). c.some) (λ (c : Cell). c.objective)

better_old : (c b x : Cell) → AsGood b x → AsGood (cond (better c b) c b) x
better_old = taken_old (λ (c : Cell). c.some) (λ (c : Cell). c.objective)

-- ---- the best of the passes so far, b, and a pass's, c, which wins where its objective is at most b's

pub later_old : (c b x : Cell) → T c.some → AsGood b x → AsGood (cond (improves c b) c b) x
later_old c b x s g = go b.some (le c.objective b.objective) refl refl
  where
    go : (y z : Bool) → b.some ≡ y → le c.objective b.objective ≡ z → AsGood (cond (not y || z) c b) x
    go false z q r = record { has = λ h. s; least = λ h. absurd (rw q at (g.has h)) }
    go true true q r = record { has = λ h. s; least = λ h k. g.least h (lt_le_trans x.objective c.objective b.objective k (rw r tt)) }
    go true false q r = g

pub later_new : (c b x : Cell) → T c.some → Proper c → Proper b → AsGood c x → AsGood (cond (improves c b) c b) x
later_new c b x s p o g = go b.some (le c.objective b.objective) refl refl
  where
    go : (y z : Bool) → b.some ≡ y → le c.objective b.objective ≡ z → AsGood (cond (not y || z) c b) x
    go false z q r = g
    go true true q r = g
    go true false q r =
        let h : T b.some = rw q tt in
        let l : T (lt b.objective c.objective) = lt_or c.objective b.objective (p s) (o h) (rw r tt) in
        record { has = λ k. h; least = λ k j. g.least k (lt_le_trans x.objective b.objective c.objective j (lt→le _ _ l)) }

-- ---- a row of cells, and the rows

-- the cell c is that of the grid at (i, j)
pub record Stands (f : CellFn) (w : Window) (n : ℕ) (c : Cell) (i j : ℕ) : Type 0 where
  pub row : i < n
  pub column : j < n
  pub is : c ≡ cell_at f w n i j

module _ (f : CellFn) (w : Window) (n : ℕ) where
  abbrev pub faces_at : ℕ → ℕ → ℕ
  faces_at i j = (cell_at f w n i j).faces

  abbrev pub updates_on : ℕ → ℕ → ℕ
  updates_on i j = (cell_at f w n i j).updates

  -- the first j cells of row i, after b
  abbrev pub row_to : ℕ → PassBest → ℕ → PassBest
  row_to i b j = for 0 j (λ j b. consider b (cell_at f w n i j) i j) b

  -- the first i rows
  abbrev pub rows_to : ℕ → PassBest
  rows_to i = for 0 i (λ i b. grid_row f w n i b) no_best

  pub record CountsTo (b : PassBest) (k m v : ℕ) : Type 0 where
    pub cells : b.cells ≡ k
    pub faces : b.faces ≡ m
    pub updates : b.updates ≡ v

  pub row_counts : (i : ℕ) (b : PassBest) (j : ℕ) → CountsTo (row_to i b j) (b.cells + j) (b.faces + sum j (faces_at i)) (b.updates + sum j (updates_on i))
  unfolding consider
  row_counts i b j =
      for_ind (λ j b. consider b (cell_at f w n i j) i j) (λ (j : ℕ) (t : PassBest). CountsTo t (b.cells + j) (b.faces + sum j (faces_at i)) (b.updates + sum j (updates_on i))) j
      (λ k t l h.
      let z = sum_next k (faces_at i) in
      let y = sum_next k (updates_on i) in
      record { cells = omega (arith, h.cells); faces = omega (arith, h.faces, z); updates = omega (arith, h.updates, y) }) b
      (let z = sum_none (faces_at i) in let y = sum_none (updates_on i) in record { cells = omega arith; faces = omega (arith, z); updates = omega (arith, y) })

  pub rows_counts : (i : ℕ) → CountsTo (rows_to i) (i * n) (sum i (λ i. sum n (faces_at i))) (sum i (λ i. sum n (updates_on i)))
  unfolding grid_row
  rows_counts i =
      for_ind (λ i b. grid_row f w n i b) (λ (i : ℕ) (t : PassBest). CountsTo t (i * n) (sum i (λ i. sum n (faces_at i))) (sum i (λ i. sum n (updates_on i)))) i
      (λ k t l h.
      let r = row_counts k t n in
      let z = sum_next k (λ i. sum n (faces_at i)) in
      let x = sum_next k (λ i. sum n (updates_on i)) in
      let y = add-mul k 1 n in
      let o = one-mul n in
      record { cells = omega (arith, h.cells, r.cells, y, o); faces = omega (arith, h.faces, r.faces, z); updates = omega (arith, h.updates, r.updates, x) }) no_best
      (let z = sum_none (λ i. sum n (faces_at i)) in let x = sum_none (λ i. sum n (updates_on i)) in let y = zero-mul n in record { cells = omega (arith, y); faces = omega (arith, z); updates = omega (arith, x) })

  -- ---- the best is as good as each cell met, and as what was there before

  record Meets (i : ℕ) (b : PassBest) (j : ℕ) (t : PassBest) : Type 0 where
    new : (k : ℕ) → k < j → AsGood t.cell (cell_at f w n i k)
    old : (x : Cell) → AsGood b.cell x → AsGood t.cell x

  row_meets : (i : ℕ) (b : PassBest) → Meets i b n (grid_row f w n i b)
  unfolding grid_row consider
  row_meets i b =
      for_ind (λ j b. consider b (cell_at f w n i j) i j) (Meets i b) n
      (λ j t l h.
      record {
        new = below_next (λ (k : ℕ). AsGood (consider t (cell_at f w n i j) i j).cell (cell_at f w n i k)) j
            (λ k m. better_old (cell_at f w n i j) t.cell (cell_at f w n i k) (h.new k m)) (better_new (cell_at f w n i j) t.cell);
        old = λ x g. better_old (cell_at f w n i j) t.cell x (h.old x g);
      }) b
      (record { new = λ k l. absurd (not-suc-le-zero l); old = λ x g. g })

  pub pass_new : (i : ℕ) → i < n → (j : ℕ) → j < n → AsGood (pass_of f w n).cell (cell_at f w n i j)
  unfolding pass_of
  pass_new =
      for_ind (λ i b. grid_row f w n i b) (λ (i : ℕ) (t : PassBest). (h : ℕ) → h < i → (j : ℕ) → j < n → AsGood t.cell (cell_at f w n h j)) n
      (λ i t l h.
      below_next (λ (k : ℕ). (j : ℕ) → j < n → AsGood (grid_row f w n i t).cell (cell_at f w n k j)) i
      (λ k m j o. (row_meets i t).old (cell_at f w n k j) (h k m j o)) (row_meets i t).new) no_best
      (λ k l. absurd (not-suc-le-zero l))

  -- ---- what holds of no cell and of each cell holds of the best

  row_of : (P : Cell → Type 0) → ((m ls : Float) → P (f m ls)) → (i : ℕ) (b : PassBest) → P b.cell → P (grid_row f w n i b).cell
  unfolding grid_row consider
  row_of P all i b p =
      for_keeps (λ (t : PassBest). P t.cell) (λ j b. consider b (cell_at f w n i j) i j) n
      (λ j l t h. cond_ind P (better (cell_at f w n i j) t.cell) (all _ _) h) b p

  pub pass_of_lem : (P : Cell → Type 0) → ((m ls : Float) → P (f m ls)) → P no_cell → P (pass_of f w n).cell
  unfolding pass_of
  pass_of_lem P all none = for_keeps (λ (t : PassBest). P t.cell) (λ i b. grid_row f w n i b) n (λ i l t h. row_of P all i t h) no_best none

  -- ---- the best is the cell at its place

  abbrev StandsOf : PassBest → Type 0
  StandsOf b = T b.cell.some → Stands f w n b.cell b.i b.j

  consider_stands : (b : PassBest) (i j : ℕ) → i < n → j < n → StandsOf b → StandsOf (consider b (cell_at f w n i j) i j)
  unfolding consider
  consider_stands b i j x y g = go (better (cell_at f w n i j) b.cell)
    where
      go : (t : Bool) → T (cond t (cell_at f w n i j) b.cell).some → Stands f w n (cond t (cell_at f w n i j) b.cell) (cond t i b.i) (cond t j b.j)
      go true h = record { row = x; column = y; is = refl }
      go false h = g h

  row_stands : (i : ℕ) (b : PassBest) → i < n → StandsOf b → StandsOf (grid_row f w n i b)
  unfolding grid_row
  row_stands i b x g = for_keeps StandsOf (λ j b. consider b (cell_at f w n i j) i j) n (λ j l t h. consider_stands t i j x l h) b g

  pub pass_stands : StandsOf (pass_of f w n)
  unfolding pass_of
  pass_stands = for_keeps StandsOf (λ i b. grid_row f w n i b) n (λ i l t h. row_stands i t l h) no_best (λ h. absurd h)
