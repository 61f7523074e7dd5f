-- What the search finds is as good as each cell of each pass made; a refusal comes from a pass without a face, and from no other. Assumes nothing.
use mathlib.Core.Path.{◌≡◌, refl, sym, ap, subst, ◌∙◌}
use mathlib.Core.Bool.{Bool, true, false, not, ◌||◌, cond}
use Prim.Native.Nat.{ℕ, ◌+◌, ◌<◌}
use native.Mathlib.Nat.{not-suc-le-zero}
use lib.Dec.{T}
use lib.Ieee.{Float, le}
use Rattle.laws.proofs.Choices.{cond_test, cond_ind, false_true}
use Rattle.laws.proofs.Loops.{below_next}
use Rattle.cell.specs.declared.Cell.{Cell}
use Rattle.moves.specs.declared.Window.{Window}
use Rattle.moves.specs.declared.PassBest.{PassBest}
use Rattle.records.specs.declared.Counts.{Counts}
use Rattle.moves.specs.declared.Found.{Found}
use Rattle.moves.specs.declared.Place.{Place}
use Rattle.moves.specs.declared.Plan.{Plan}
use Rattle.moves.specs.declared.Search.{Search}
use Rattle.moves.specs.Moves.{is_going, is_refused, place_of, found_of, improves, recentred, shrunk, stopped, moved_of}
use Rattle.search.specs.Search.{CellFn, pass_of, counted_of, search_refused, step_of, start_of, after_passes}
use Rattle.search.specs.Promised.{cell_of_pass}
use Rattle.search.proofs.Passes.{AsGood, Proper, later_old, later_new, pass_new, pass_of_lem}
use Rattle.moves.proofs.Cases.{moved_ind}
use Rattle.search.proofs.Trail.{after_ind, trail, passes_after}

T-is : (b : Bool) → T b → b ≡ true
T-is true h = refl
T-is false h = absurd h

is_T : {b : Bool} → b ≡ true → T b
is_T e = subst T (sym e) tt

-- ---- one step

-- a move keeps the better of what was found and the pass's best, whatever it does to the window
pub moved_found : (p : Plan) (s : Search) (n : Counts) (b : PassBest) → (moved_of p s n b).found ≡ found_of b (place_of p s.window b) s.found
unfolding recentred shrunk stopped
moved_found p s n b = moved_ind (λ (r : Search). r.found ≡ found_of b (place_of p s.window b) s.found) p s n b (λ e. refl) (λ e. refl) refl

moved_accepts : (p : Plan) (s : Search) (n : Counts) (b : PassBest) → is_refused (moved_of p s n b) ≡ false
unfolding recentred shrunk stopped
moved_accepts p s n b = moved_ind (λ (r : Search). is_refused r ≡ false) p s n b (λ e. refl) (λ e. refl) refl

found_cell : (b : PassBest) (a : Place) (o : Found) → (found_of b a o).cell ≡ cond (improves b.cell o.cell) b.cell o.cell
unfolding found_of
found_cell b a o = go (improves b.cell o.cell)
  where
    go : (x : Bool) → (cond x (record { cell = b.cell; m = a.m.point; ls = a.s.point; on_edge = a.m.edge || a.s.edge }) o).cell ≡ cond x b.cell o.cell
    go true = refl
    go false = refl

module _ (f : CellFn) (p : Plan) (s : Search) where
  pub best : PassBest
  best = pass_of f s.window p.n

  -- what a pass leaves as found: the later of two, or, where the pass has no face, what was there
  pub step_cell : (step_of f p s).found.cell ≡ cond best.cell.some (cond (improves best.cell s.found.cell) best.cell s.found.cell) s.found.cell
  unfolding step_of search_refused best
  step_cell = go best.cell.some
    where
      n : Counts
      n = counted_of s.counts best

      go : (x : Bool) → (cond x (moved_of p s n best) (search_refused s n)).found.cell ≡ cond x (cond (improves best.cell s.found.cell) best.cell s.found.cell) s.found.cell
      go true = ap (λ (o : Found). o.cell) (moved_found p s n best) ∙ found_cell best (place_of p s.window best) s.found
      go false = refl

  -- it refuses exactly where the pass has no face
  pub step_refused : is_refused (step_of f p s) ≡ not best.cell.some
  unfolding step_of search_refused best
  step_refused = go best.cell.some
    where
      n : Counts
      n = counted_of s.counts best

      go : (x : Bool) → is_refused (cond x (moved_of p s n best) (search_refused s n)) ≡ not x
      go true = moved_accepts p s n best
      go false = refl

  -- and what refuses goes no further
  pub step_open : is_going (step_of f p s) ≡ true → is_refused (step_of f p s) ≡ false
  unfolding step_of search_refused best
  step_open = go best.cell.some
    where
      n : Counts
      n = counted_of s.counts best

      go : (x : Bool) → is_going (cond x (moved_of p s n best) (search_refused s n)) ≡ true → is_refused (cond x (moved_of p s n best) (search_refused s n)) ≡ false
      go true e = moved_accepts p s n best
      go false e = false_true e

  step_some : is_refused (step_of f p s) ≡ false → T best.cell.some
  step_some e = go best.cell.some (sym step_refused ∙ e)
    where
      go : (x : Bool) → not x ≡ false → T x
      go true h = tt
      go false h = false_true (sym h)

  step_yields : is_refused (step_of f p s) ≡ false → T (step_of f p s).found.cell.some
  step_yields e = rw step_cell (rw (T-is best.cell.some (step_some e)) (later s.found.cell.some (le best.cell.objective s.found.cell.objective) refl))
    where
      later : (y z : Bool) → s.found.cell.some ≡ y → T (cond (not y || z) best.cell s.found.cell).some
      later false z h = step_some e
      later true true h = step_some e
      later true false h = is_T h

-- ---- after q passes

module _ (f : CellFn) (p : Plan) where
  -- a refusal is that of the last pass made, in which no cell has a face
  pub record Refusal (s : Search) : Type 0 where
    pub pass : ℕ
    pub last : pass + 1 ≡ s.counts.passes
    pub none : (i : ℕ) → i < p.n → (j : ℕ) → j < p.n → T (cell_of_pass f p pass i j).some → ⊥

  -- without a refusal each pass made has a face, and the best was found
  pub record Yield (s : Search) : Type 0 where
    pub each : (q : ℕ) → q < s.counts.passes → T (pass_of f (after_passes f p q).window p.n).cell.some
    pub found : 0 < s.counts.passes → T s.found.cell.some

  record Verdict (q : ℕ) (s : Search) : Type 0 where
    unrefused : is_going s ≡ true → is_refused s ≡ false
    refusal : is_refused s ≡ true → Refusal s
    yields : is_refused s ≡ false → Yield s

  verdict : (q : ℕ) → Verdict q (after_passes f p q)
  unfolding start_of best
  verdict =
      after_ind f p Verdict
      (record { unrefused = λ e. refl; refusal = λ e. false_true e; yields = λ e. record { each = λ k l. absurd (not-suc-le-zero l); found = λ l. absurd (not-suc-le-zero l) } })
      (λ q g h.
      let s = after_passes f p q in
      let z = passes_after f p q g in
      record {
        unrefused = step_open f p s;
        refusal =
            λ e. record { pass = q; last = sym z; none = λ i a j b t. no_face (best f p s).cell.some (sym (step_refused f p s) ∙ e) ((pass_new f s.window p.n i a j b).has t) };
        yields =
            λ e.
            record {
              each =
                  λ k l.
                  below_next (λ (k : ℕ). T (pass_of f (after_passes f p k).window p.n).cell.some) q
                  (λ i m. (h.yields (h.unrefused g)).each i (rw ((trail f p q).on g) m)) (step_some f p s e) k (rw z at l);
              found = λ l. step_yields f p s e;
            };
      })
      (λ q g h. record { unrefused = h.unrefused; refusal = h.refusal; yields = h.yields })
    where
      no_face : (x : Bool) → not x ≡ true → T x → ⊥
      no_face true e t = false_true e
      no_face false e t = t

  -- a search that goes on did not refuse
  pub going_on : (q : ℕ) → is_going (after_passes f p q) ≡ true → is_refused (after_passes f p q) ≡ false
  going_on q = (verdict q).unrefused

  pub refusal : (q : ℕ) → is_refused (after_passes f p q) ≡ true → Refusal (after_passes f p q)
  refusal q = (verdict q).refusal

  pub yields : (q : ℕ) → is_refused (after_passes f p q) ≡ false → Yield (after_passes f p q)
  yields q = (verdict q).yields

module _ (f : CellFn) (ok : (m ls : Float) → Proper (f m ls)) (p : Plan) where
  pass_proper : (w : Window) → Proper (pass_of f w p.n).cell
  pass_proper w = pass_of_lem f w p.n Proper ok (λ h. absurd h)

  step_proper : (s : Search) → Proper s.found.cell → Proper (step_of f p s).found.cell
  unfolding best
  step_proper s h =
      let c = (best f p s).cell in
      rw (step_cell f p s) (cond_ind Proper c.some (cond_ind Proper (improves c s.found.cell) (pass_proper s.window) h) h)

  step_old : (s : Search) (x : Cell) → AsGood s.found.cell x → AsGood (step_of f p s).found.cell x
  step_old s x g =
      let c = (best f p s).cell in
      rw (step_cell f p s) (cond_test (λ (b : Cell). AsGood b x) c.some (λ e. later_old c s.found.cell x (is_T e) g) (λ e. g))

  step_new : (s : Search) (x : Cell) → Proper s.found.cell → AsGood (pass_of f s.window p.n).cell x → AsGood (step_of f p s).found.cell x
  unfolding best
  step_new s x o g =
      let c = (best f p s).cell in
      rw (step_cell f p s)
      (cond_test (λ (b : Cell). AsGood b x) c.some (λ e. later_new c s.found.cell x (is_T e) (pass_proper s.window) o g)
      (λ e. let no : T x.some → ⊥ = λ t. subst T e (g.has t) in record { has = λ t. absurd (no t); least = λ t. absurd (no t) }))

  pub record Met (q : ℕ) (s : Search) : Type 0 where
    pub proper : Proper s.found.cell
    -- as good as each cell of each pass made
    pub all : (k : ℕ) → k < s.counts.passes → (i : ℕ) → i < p.n → (j : ℕ) → j < p.n → AsGood s.found.cell (cell_of_pass f p k i j)

  pub met : (q : ℕ) → Met q (after_passes f p q)
  unfolding start_of
  met =
      after_ind f p Met
      (record { proper = λ h. absurd h; all = λ k l. absurd (not-suc-le-zero l) })
      (λ q g h.
      let s = after_passes f p q in
      record {
        proper = step_proper s h.proper;
        all =
            λ k l.
            below_next (λ (k : ℕ). (i : ℕ) → i < p.n → (j : ℕ) → j < p.n → AsGood (step_of f p s).found.cell (cell_of_pass f p k i j)) q
            (λ k m i a j b. step_old s (cell_of_pass f p k i j) (h.all k (rw ((trail f p q).on g) m) i a j b))
            (λ i a j b. step_new s (cell_of_pass f p q i j) h.proper (pass_new f s.window p.n i a j b))
            k (rw (passes_after f p q g) at l);
      })
      (λ q g h. record { proper = h.proper; all = h.all })
