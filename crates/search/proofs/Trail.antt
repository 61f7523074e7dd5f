-- The states of the search, pass after pass: what each pass adds to the counts, and which passes are made. Assumes nothing.
use mathlib.Core.Path.{◌≡◌, refl, sym, ap, subst, ◌∙◌}
use mathlib.Core.Bool.{Bool, true, false, cond}
use Prim.Native.Nat.{ℕ, zero, suc, ◌+◌, ◌-◌, ◌*◌, ◌≤◌, ◌<◌}
use native.Mathlib.Omega.{arith}
use native.Mathlib.Numerals.{add-one}
use native.Mathlib.Nat.{zero-mul, add-mul, one-mul, not-suc-le-zero, eq-or-lt_of_le}
use mathlib.Core.Logic.{⊎_elim}
use lib.Ieee.{lt}
use Rattle.laws.specs.Loop.{turns, sum}
use Rattle.laws.proofs.Loops.{turns_last, below_next}
use Rattle.laws.proofs.Sums.{sum_none, sum_next}
use Rattle.laws.proofs.Choices.{cond_ind, cond_test, false_true}
use Rattle.moves.specs.declared.PassBest.{PassBest}
use Rattle.records.specs.declared.Counts.{Counts}
use Rattle.moves.specs.declared.Found.{Found}
use Rattle.moves.specs.declared.Place.{Place}
use Rattle.moves.specs.declared.Plan.{Plan}
use Rattle.moves.specs.declared.Search.{Search}
use Rattle.moves.specs.Moves.{is_going, width, recentred, narrowed, shrunk, stopped, can_recentre, can_shrink, moved_of}
use Rattle.search.specs.Search.{CellFn, pass_of, counted_of, search_refused, step_of, start_of, pass_while_going, after_passes}
use Rattle.moves.proofs.Cases.{moved_ind, recentre_left, shrink_left}
use Rattle.search.proofs.Passes.{faces_at, updates_on, rows_counts}

-- ---- the counts after a pass

-- c are the counts n of a pass, with the move after it
record Kept (p : Plan) (n c : Counts) : Type 0 where
  passes : c.passes ≡ n.passes
  cells : c.cells ≡ n.cells
  faces : c.faces ≡ n.faces
  updates : c.updates ≡ n.updates
  recentres : c.recentres ≤ p.max_recentres
  shrinks : c.shrinks ≤ p.refinements

module _ (p : Plan) (s : Search) (n : Counts) (r : n.recentres ≤ p.max_recentres) (h : n.shrinks ≤ p.refinements) where
  recentred_kept : (b : PassBest) (a : Place) (o : Found) → can_recentre p s n b a ≡ true → Kept p n (recentred p s n a o).counts
  unfolding recentred
  recentred_kept b a o e =
      let l = recentre_left p s n b a e in
      record { passes = refl; cells = refl; faces = refl; updates = refl; recentres = omega (arith, l); shrinks = h }

  shrunk_kept : (o : Found) → can_shrink p s n ≡ true → Kept p n (shrunk p s n o).counts
  unfolding shrunk
  shrunk_kept o e =
      let l = shrink_left p s n e in
      record {
        passes = refl;
        cells = refl;
        faces = refl;
        updates = refl;
        recentres = r;
        shrinks = cond_ind (λ (k : ℕ). k ≤ p.refinements) (lt (width (narrowed p s.window o).m) s.smallest) (one_more n.shrinks p.refinements l) h;
      }
    where
      one_more : (a b : ℕ) → a < b → a + 1 ≤ b
      one_more a b l = omega arith

  moved_kept : (b : PassBest) → Kept p n (moved_of p s n b).counts
  unfolding stopped
  moved_kept b =
      moved_ind (λ (t : Search). Kept p n t.counts) p s n b (recentred_kept b _ _) (shrunk_kept _)
      (record { passes = refl; cells = refl; faces = refl; updates = refl; recentres = r; shrinks = h })

  refused_kept : Kept p n (search_refused s n).counts
  unfolding search_refused
  refused_kept = record { passes = refl; cells = refl; faces = refl; updates = refl; recentres = r; shrinks = h }

-- ---- pass after pass

module _ (f : CellFn) (p : Plan) where
  pub after_next : (q : ℕ) → after_passes f p (q + 1) ≡ pass_while_going f p q (after_passes f p q)
  unfolding after_passes
  after_next q = ap (λ (k : ℕ). turns (pass_while_going f p) k 0 (start_of p)) (add-one q) ∙ turns_last (pass_while_going f p) q 0 (start_of p)

  -- a pass that is made is a step
  pub after_step : (q : ℕ) → is_going (after_passes f p q) ≡ true → after_passes f p (q + 1) ≡ step_of f p (after_passes f p q)
  after_step q g = after_next q ∙ ap (λ (b : Bool). cond b (step_of f p (after_passes f p q)) (after_passes f p q)) g

  pub after_start : after_passes f p 0 ≡ start_of p
  unfolding after_passes turns
  after_start = refl

  module _
      (P : ℕ → Search → Type 0)
      (begins : P 0 (start_of p))
      (steps : (q : ℕ) → is_going (after_passes f p q) ≡ true → P q (after_passes f p q) → P (q + 1) (step_of f p (after_passes f p q)))
      (stays : (q : ℕ) → is_going (after_passes f p q) ≡ false → P q (after_passes f p q) → P (q + 1) (after_passes f p q)) where
    next : (q : ℕ) → P q (after_passes f p q) → P (suc q) (after_passes f p (suc q))
    next q h =
        subst (λ (k : ℕ). P k (after_passes f p k)) (add-one q)
        (subst (P (q + 1)) (sym (after_next q)) (cond_test (P (q + 1)) (is_going (after_passes f p q)) (λ e. steps q e h) (λ e. stays q e h)))

    -- what holds at the start, and is kept by each pass and by none, holds after q passes
    pub after_ind : (q : ℕ) → P q (after_passes f p q)
    after_ind zero = subst (P 0) (sym after_start) begins
    after_ind (suc q) = next q (after_ind q)

  -- ---- the counts after q passes

  -- the faces that pass q tries
  abbrev pub pass_faces : ℕ → ℕ
  pass_faces q = sum p.n (λ i. sum p.n (λ j. faces_at f (after_passes f p q).window p.n i j))

  -- the updates of its cells
  abbrev pub pass_updates : ℕ → ℕ
  pass_updates q = sum p.n (λ i. sum p.n (λ j. updates_on f (after_passes f p q).window p.n i j))

  pub record Trail (q : ℕ) (s : Search) : Type 0 where
    pub few : s.counts.passes ≤ q
    pub on : is_going s ≡ true → s.counts.passes ≡ q
    -- the passes made are the first ones, and s is the state after them
    pub made : (k : ℕ) → k < s.counts.passes → is_going (after_passes f p k) ≡ true
    pub same : after_passes f p s.counts.passes ≡ s
    pub cells : s.counts.cells ≡ s.counts.passes * (p.n * p.n)
    pub faces : s.counts.faces ≡ sum s.counts.passes pass_faces
    pub updates : s.counts.updates ≡ sum s.counts.passes pass_updates
    pub recentres : s.counts.recentres ≤ p.max_recentres
    pub shrinks : s.counts.shrinks ≤ p.refinements

  step_kept : (s : Search) → s.counts.recentres ≤ p.max_recentres → s.counts.shrinks ≤ p.refinements
      → Kept p (counted_of s.counts (pass_of f s.window p.n)) (step_of f p s).counts
  unfolding step_of counted_of
  step_kept s r h =
      let b = pass_of f s.window p.n in
      let n = counted_of s.counts b in
      cond_ind (λ (t : Search). Kept p n t.counts) b.cell.some (moved_kept p s n r h b) (refused_kept p s n r h)

  trail_start : Trail 0 (start_of p)
  unfolding start_of
  trail_start =
      record {
        few = omega arith;
        on = λ e. refl;
        made = λ k l. absurd (not-suc-le-zero l);
        same = after_start;
        cells = sym (zero-mul (p.n * p.n));
        faces = sym (sum_none pass_faces);
        updates = sym (sum_none pass_updates);
        recentres = omega arith;
        shrinks = omega arith;
      }

  trail_step : (q : ℕ) → is_going (after_passes f p q) ≡ true → Trail q (after_passes f p q) → Trail (q + 1) (step_of f p (after_passes f p q))
  unfolding counted_of pass_of
  trail_step q g h =
      let s = after_passes f p q in
      let e = h.on g in
      let k = step_kept s h.recentres h.shrinks in
      let b = rows_counts f s.window p.n p.n in
      let z : (step_of f p s).counts.passes ≡ q + 1 = k.passes ∙ ap (λ (c : ℕ). c + 1) e in
      let w = add-mul s.counts.passes 1 (p.n * p.n) in
      let o = one-mul (p.n * p.n) in
      record {
        few = omega (arith, z);
        on = λ t. z;
        made = λ j l. below_next (λ (j : ℕ). is_going (after_passes f p j) ≡ true) q (λ i m. h.made i (rw e m)) g j (rw z at l);
        same = ap (after_passes f p) z ∙ after_step q g;
        cells = rw k.passes (omega (arith, k.cells, b.cells, h.cells, w, o));
        faces = k.faces ∙ ap (λ (c : ℕ). s.counts.faces + c) b.faces ∙ ap (λ (c : ℕ). c + pass_faces q) (h.faces ∙ ap (λ (c : ℕ). sum c pass_faces) e) ∙ sym (sum_next q pass_faces) ∙ ap (λ (c : ℕ). sum c pass_faces) (sym z);
        updates = k.updates ∙ ap (λ (c : ℕ). s.counts.updates + c) b.updates ∙ ap (λ (c : ℕ). c + pass_updates q) (h.updates ∙ ap (λ (c : ℕ). sum c pass_updates) e) ∙ sym (sum_next q pass_updates) ∙ ap (λ (c : ℕ). sum c pass_updates) (sym z);
        recentres = k.recentres;
        shrinks = k.shrinks;
      }

  pub trail : (q : ℕ) → Trail q (after_passes f p q)
  trail =
      after_ind Trail trail_start trail_step
      (λ q g h.
      record {
        few = omega (arith, h.few);
        on = λ t. false_true (sym g ∙ t);
        made = h.made;
        same = h.same;
        cells = h.cells;
        faces = h.faces;
        updates = h.updates;
        recentres = h.recentres;
        shrinks = h.shrinks;
      })

  pub passes_after : (q : ℕ) → is_going (after_passes f p q) ≡ true → (step_of f p (after_passes f p q)).counts.passes ≡ q + 1
  unfolding counted_of
  passes_after q g =
      let h = trail q in
      (step_kept (after_passes f p q) h.recentres h.shrinks).passes ∙ ap (λ (c : ℕ). c + 1) (h.on g)

  -- the first pass is always made
  pub some_pass : (q : ℕ) → 0 < q → 0 < (after_passes f p q).counts.passes
  unfolding start_of
  some_pass q h = ⊎_elim none (λ l. l) (eq-or-lt_of_le (at_least (after_passes f p q).counts.passes))
    where
      at_least : (n : ℕ) → 0 ≤ n
      at_least n = omega arith

      none : 0 ≡ (after_passes f p q).counts.passes → 0 < (after_passes f p q).counts.passes
      none e =
          let t = trail q in
          let z : after_passes f p q ≡ start_of p = sym t.same ∙ ap (after_passes f p) (sym e) ∙ after_start in
          let g : is_going (after_passes f p q) ≡ true = ap is_going z in
          let o = t.on g in
          omega (arith, o, h)

  -- a search that ended stays as it is
  pub ended_stays : (k d : ℕ) → is_going (after_passes f p k) ≡ false → after_passes f p (k + d) ≡ after_passes f p k
  ended_stays k zero e = ap (after_passes f p) (omega arith)
  ended_stays k (suc d) e =
      let h = ended_stays k d e in
      let n : k + suc d ≡ k + d + 1 = omega arith in
      ap (after_passes f p) n ∙ after_next (k + d) ∙ ap (λ (b : Bool). cond b (step_of f p (after_passes f p (k + d))) (after_passes f p (k + d))) (ap is_going h ∙ e) ∙ h

  pub ended_early : (s : Search) (k l : ℕ) → s ≡ after_passes f p k → is_going s ≡ false → k ≤ l → s ≡ after_passes f p l
  ended_early s k l e g h =
      let n : k + (l - k) ≡ l = omega arith in
      e ∙ sym (ended_stays k (l - k) (sym (ap is_going e) ∙ g)) ∙ ap (after_passes f p) n

  pub stepped : (s r : Search) (k : ℕ) → s ≡ after_passes f p k → is_going s ≡ true → r ≡ step_of f p s → r ≡ after_passes f p (k + 1)
  stepped s r k e g h = h ∙ ap (step_of f p) e ∙ sym (after_step k (sym (ap is_going e) ∙ g))
