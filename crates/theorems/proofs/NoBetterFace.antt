-- What is promised of every search, for cells that are chosen from faces: its counts, its passes, and that no face that qualifies, tried in any cell of any pass made,
-- has a smaller objective than the one chosen, which is such a face. Assumes nothing.
use mathlib.Core.Path.{◌≡◌, ap, subst, fun_ext, ◌∙◌}
use mathlib.Core.Bool.{Bool, true, false, not}
use Prim.Native.Nat.{ℕ, ◌+◌, ◌-◌, ◌<◌}
use native.Mathlib.Omega.{arith}
use lib.Dec.{T}
use lib.Ieee.{Float, lt, le}
use Rattle.laws.specs.Loop.{sum}
use Rattle.laws.proofs.Floats.{finite_no_nan}
use Rattle.laws.proofs.Order.{lt_or, lt_le_trans}
use Rattle.cell.specs.declared.Cell.{Cell}
use Rattle.cell.specs.Choice.{Beats}
use Rattle.moves.specs.declared.Plan.{Plan}
use Rattle.moves.specs.declared.Search.{Search}
use Rattle.moves.specs.Moves.{is_going, axis_point}
use Rattle.search.specs.Search.{CellFn, pass_of, after_passes, limit_of, search_of}
use Rattle.search.specs.Promised.{FaceFn, UpdatesFn, ChosenFrom, cell_of_pass, face_of_pass, updates_of_pass, Qualifies, Yields, ChosenFace, Promised}
use Rattle.search.proofs.Passes.{AsGood, Proper, pass_stands}
use Rattle.search.proofs.Trail.{trail, some_pass, pass_updates}
use Rattle.search.proofs.SearchCounts.{most_updates}
use Rattle.theorems.proofs.Least.{going_on, Refusal, refusal, yields, met}
use Rattle.theorems.proofs.Chosen.{Chosen, chosen}

-- no face is better than b where none is better than c, and c is not better than b
as_good_trans : (b c : Cell) (v : Float) → Proper b → Proper c → AsGood b c → T c.some → (T (lt v c.objective) → ⊥) → T (lt v b.objective) → ⊥
as_good_trans b c v pb pc g s least k =
    let o = g.has s in
    least (lt_le_trans v b.objective c.objective k (at_most (le b.objective c.objective) (lt_or b.objective c.objective (pb o) (pc s)) (g.least s)))
  where
    at_most : (x : Bool) → (T (not x) → T (lt c.objective b.objective)) → (T (lt c.objective b.objective) → ⊥) → T x
    at_most true h k = tt
    at_most false h k = absurd (k (h tt))

module _ (f : CellFn) (g : FaceFn) (u : UpdatesFn) (top most : ℕ) (from : ChosenFrom f g u top most) (p : Plan) where
  proper : (m ls : Float) → Proper (f m ls)
  proper m ls h = finite_no_nan _ (from.finite_objective m ls h)

  abbrev m_at : ℕ → ℕ → Float
  m_at q i = axis_point (after_passes f p q).window.m p.n i

  abbrev ls_at : ℕ → ℕ → Float
  ls_at q j = axis_point (after_passes f p q).window.s p.n j

  -- a face that qualifies, and the cell that tried it
  beaten : (q i j t : ℕ) → Qualifies f g p q i j t → Beats (g (m_at q i) (ls_at q j)) (cell_of_pass f p q i j) t
  beaten q i j t h = from.beats (m_at q i) (ls_at q j) t h.tried

  -- a pass with a cell has a face
  pass_yields : (q : ℕ) → T (pass_of f (after_passes f p q).window p.n).cell.some → Yields f g p q
  pass_yields q h =
      let b = pass_of f (after_passes f p q).window p.n in
      let z = pass_stands f (after_passes f p q).window p.n h in
      let w = from.first (m_at q b.i) (ls_at q b.j) (subst (λ (c : Cell). T c.some) z.is h) in
      record { i = b.i; j = b.j; t = w.0; face = record { row = z.row; column = z.column; tried = w.1.below; qualifies = w.1.qualifies } }

  -- the last pass of a refusal has none
  refusal_none : (s : Search) (q : ℕ) → q + 1 ≡ s.counts.passes → Refusal f p s → Yields f g p q → ⊥
  refusal_none s q e r y =
      let same : q ≡ r.pass = omega (arith, e, r.last) in
      let z = subst (Yields f g p) same y in
      r.none z.i z.face.row z.j z.face.column ((beaten r.pass z.i z.j z.t z.face).has z.face.qualifies)

  face_of : (s : Search) → Chosen f p s.found s.counts.passes → T s.found.cell.some → ChosenFace f g p s
  face_of s c some =
      let q = c.pass in
      let w = from.first (m_at q c.i) (ls_at q c.j) (subst (λ (c : Cell). T c.some) c.stands.is some) in
      record {
        pass = q;
        i = c.i;
        j = c.j;
        t = w.0;
        made = c.made;
        face = record { row = c.stands.row; column = c.stands.column; tried = w.1.below; qualifies = w.1.qualifies };
        is = c.stands.is ∙ w.1.is;
        m = c.m;
        ls = c.ls;
        edge = c.edge;
      }

  -- a pass before the last one made: the search went on after it
  before_last : (q : ℕ) → q + 1 < (search_of f p).counts.passes → Yields f g p q
  before_last q l =
      let on : is_going (after_passes f p (q + 1)) ≡ true = (trail f p (limit_of p)).made (q + 1) l in
      let n = (trail f p (q + 1)).on on in
      pass_yields q ((yields f p (q + 1) (going_on f p (q + 1) on)).each q (omega (arith, n)))

  -- the updates of a pass are those of the faces that its cells try
  each_face : (q : ℕ) → pass_updates f p q ≡ sum p.n (λ i. sum p.n (λ j. sum (cell_of_pass f p q i j).faces (updates_of_pass f u p q i j)))
  each_face q = ap (sum p.n) (fun_ext (λ i. ap (sum p.n) (fun_ext (λ j. from.updates (m_at q i) (ls_at q j)))))

  pub no_better_face : Promised f g u top most p (search_of f p)
  no_better_face =
      let k = limit_of p in
      let s = search_of f p in
      let t = trail f p k in
      let some = some_pass f p k (omega arith) in
      let last = s.counts.passes - 1 in
      let e : last + 1 ≡ s.counts.passes = omega (arith, some) in
      let best = met f proper p k in
      record {
        passes = t.few;
        recentres = t.recentres;
        shrinks = t.shrinks;
        cells = t.cells;
        faces = t.faces;
        updates = t.updates ∙ ap (sum s.counts.passes) (fun_ext each_face);
        few = most_updates f p k most from.few;
        tries = λ q i j. from.tries (m_at q i) (ls_at q j);
        made = t.made;
        after = t.same;
        ended = t.on;
        last = last;
        is_last = e;
        earlier = λ q l. before_last q (omega (arith, l, e));
        faceless = λ r. refusal_none s last e (refusal f p k r);
        yielding = λ r. pass_yields last ((yields f p k r).each last (omega (arith, e)));
        least =
            λ q i j t l h u.
            let b = beaten q i j t h in
            as_good_trans s.found.cell (cell_of_pass f p q i j) (face_of_pass f g p q i j t).objective best.proper (proper _ _)
            (best.all q l i h.row j h.column) (b.has h.qualifies) (b.least h.qualifies) u;
        chosen = λ r. let h = (yields f p k r).found some in face_of s (chosen f p k h) h;
      }
