-- No count is large: what is at most `top` in a cell is at most `top` times the cells in a search, and within document 01's sizes no count wraps. Assumes nothing.
use mathlib.Core.Path.{◌≡◌, sym, ap, ◌∙◌}
use mathlib.Core.Bool.{true, ◌&&◌}
use Prim.Native.Nat.{ℕ, ◌*◌, ◌≤◌}
use native.Mathlib.Omega.{arith}
use native.Mathlib.Nat.{mul_assoc, mul_comm, mul-le-mul, le_refl, le_trans}
use lib.Dec.{leb}
use borrow.Author.Tests.{leb-true}
use Rattle.laws.specs.Loop.{sum}
use Rattle.laws.proofs.Choices.{both}
use Rattle.laws.proofs.Sums.{sum_most}
use Rattle.cell.specs.declared.Cell.{Cell}
use lib.Ieee.{Float}
use Rattle.moves.specs.declared.Plan.{Plan}
use Rattle.moves.specs.declared.Search.{Search}
use Rattle.search.specs.Search.{CellFn, after_passes, limit_of}
use Rattle.search.specs.Promised.{cell_of_pass}
use Rattle.search.specs.Run.{plan_sizes_hold}
use Rattle.search.specs.Roomy.{Roomy}
use Rattle.search.proofs.Trail.{trail}

module _ (f : CellFn) (p : Plan) (q : ℕ) where
  abbrev n : ℕ
  n = p.n

  abbrev s : Search
  s = after_passes f p q

  -- a number g of each cell, of at most top, over all cells
  most_of : (g : Cell → ℕ) (top : ℕ) → ((m ls : Float) → g (f m ls) ≤ top) → sum s.counts.passes (λ k. sum n (λ i. sum n (λ j. g (cell_of_pass f p k i j)))) ≤ top * s.counts.cells
  most_of g top h =
      let row : (k i : ℕ) → sum n (λ j. g (cell_of_pass f p k i j)) ≤ n * top = λ k i. sum_most n top (λ j. g (cell_of_pass f p k i j)) (λ j l. h _ _) in
      let pass : (k : ℕ) → sum n (λ i. sum n (λ j. g (cell_of_pass f p k i j))) ≤ n * (n * top) = λ k. sum_most n (n * top) (λ i. sum n (λ j. g (cell_of_pass f p k i j))) (λ i l. row k i) in
      let all = sum_most s.counts.passes (n * (n * top)) (λ k. sum n (λ i. sum n (λ j. g (cell_of_pass f p k i j)))) (λ k l. pass k) in
      let e : s.counts.passes * (n * (n * top)) ≡ top * (s.counts.passes * (n * n)) = regroup s.counts.passes n top in
      rw (trail f p q).cells (rw e at all)
    where
      regroup : (a b c : ℕ) → a * (b * (b * c)) ≡ c * (a * (b * b))
      regroup a b c = ap (λ (x : ℕ). a * x) (sym (mul_assoc b b c)) ∙ sym (mul_assoc a (b * b) c) ∙ mul_comm (a * (b * b)) c

  pub most_faces : (top : ℕ) → ((m ls : Float) → (f m ls).faces ≤ top) → s.counts.faces ≤ top * s.counts.cells
  most_faces top h = rw (trail f p q).faces (most_of (λ c. c.faces) top h)

  pub most_updates : (top : ℕ) → ((m ls : Float) → (f m ls).updates ≤ top) → s.counts.updates ≤ top * s.counts.cells
  most_updates top h = rw (trail f p q).updates (most_of (λ c. c.updates) top h)

-- ---- document 01's sizes: no count wraps

pub grid_cells : (i n : ℕ) → i ≤ n → n ≤ 255 → i * n ≤ 65025
grid_cells i n h k = mul-le-mul {n₂ = 255} {m₂ = 255} (le_trans h k) k

pub record Sizes (p : Plan) : Type 0 where
  pub grid : p.n ≤ 255
  pub refinements : p.refinements ≤ 1000
  pub recentres : p.max_recentres ≤ 1000

pub sizes_are : (p : Plan) → plan_sizes_hold p ≡ true → Sizes p
unfolding plan_sizes_hold
sizes_are p h =
    let a = both (leb p.n 255) (leb p.refinements 1000 && leb p.max_recentres 1000) h in
    let b = both (leb p.refinements 1000) (leb p.max_recentres 1000) a.1 in
    record { grid = leb-true _ _ a.0; refinements = leb-true _ _ b.0; recentres = leb-true _ _ b.1 }

-- at most 3,001 passes, 195,140,025 cells, 12,488,961,600 faces and 670,891,405,950 updates
pub roomy :
    (f : CellFn) → ((m ls : Float) → (f m ls).faces ≤ 64) → ((m ls : Float) → (f m ls).updates ≤ 3438) → (p : Plan) → p.n ≤ 255 → p.refinements ≤ 1000 → p.max_recentres ≤ 1000
    → (q : ℕ) → q ≤ limit_of p → Roomy p (after_passes f p q)
roomy f most light p grid refinements recentres q h =
    let t = trail f p q in
    let few : (after_passes f p q).counts.passes ≤ 3001 = omega (arith, t.few) in
    let c : (after_passes f p q).counts.passes * (p.n * p.n) ≤ 195_140_025 =
    mul-le-mul {n₂ = 3001} {m₂ = 65025} few (grid_cells p.n p.n (le_refl _) grid) in
    let m = most_faces f p q 64 most in
    let u = most_updates f p q 3438 light in
    record {
      grid = grid;
      passes = few;
      recentres = omega (arith, t.recentres);
      shrinks = omega (arith, t.shrinks);
      cells = omega (arith, t.cells, c);
      faces = omega (arith, t.cells, c, m);
      updates = omega (arith, t.cells, c, u);
    }
