-- What the search found is a cell of one of the passes made, at the point and on the edge that it says. Assumes nothing.
use mathlib.Core.Path.{◌≡◌, refl, sym, subst}
use mathlib.Core.Bool.{Bool, true, false, ◌||◌, cond}
use Prim.Native.Nat.{ℕ, ◌+◌, ◌-◌, ◌≤◌, ◌<◌}
use native.Mathlib.Omega.{arith}
use lib.Dec.{T}
use Rattle.moves.specs.declared.PassBest.{PassBest}
use Rattle.records.specs.declared.Counts.{Counts}
use Rattle.moves.specs.declared.Found.{Found}
use Rattle.moves.specs.declared.Place.{Place}
use Rattle.moves.specs.declared.Plan.{Plan}
use Rattle.moves.specs.declared.Search.{Search}
use Rattle.moves.specs.Moves.{axis_point, any_edge, improves, found_of, place_of, moved_of}
use Rattle.search.specs.Search.{CellFn, pass_of, counted_of, search_refused, step_of, start_of, after_passes}
use Rattle.search.proofs.Passes.{Stands, pass_stands}
use Rattle.search.proofs.Trail.{after_ind, trail, passes_after}
use Rattle.theorems.proofs.Least.{moved_found}

-- o is the cell (i, j) of the grid of a pass, one of the first k, with its m, its ln sigma and its edge mark
pub record Chosen (f : CellFn) (p : Plan) (o : Found) (k : ℕ) : Type 0 where
  pub pass : ℕ
  pub i : ℕ
  pub j : ℕ
  pub made : pass < k
  pub stands : Stands f (after_passes f p pass).window p.n o.cell i j
  pub m : o.m ≡ axis_point (after_passes f p pass).window.m p.n i
  pub ls : o.ls ≡ axis_point (after_passes f p pass).window.s p.n j
  pub edge : o.on_edge ≡ (any_edge i (p.n - 1) || any_edge j (p.n - 1))

module _ (f : CellFn) (p : Plan) where
  longer : (o : Found) (k l : ℕ) → k ≤ l → Chosen f p o k → Chosen f p o l
  longer o k l h c = record { pass = c.pass; i = c.i; j = c.j; made = omega (arith, h, c.made); stands = c.stands; m = c.m; ls = c.ls; edge = c.edge }

  module _ (q : ℕ) (old : T (after_passes f p q).found.cell.some → Chosen f p (after_passes f p q).found q) where
    s : Search
    s = after_passes f p q

    b : PassBest
    b = pass_of f s.window p.n

    new_chosen : T b.cell.some → T (found_of b (place_of p s.window b) s.found).cell.some → Chosen f p (found_of b (place_of p s.window b) s.found) (q + 1)
    unfolding s b found_of place_of
    new_chosen t = go (improves b.cell s.found.cell)
      where
        a : Place
        a = place_of p s.window b

        go : (x : Bool) → T (cond x (record { cell = b.cell; m = a.m.point; ls = a.s.point; on_edge = a.m.edge || a.s.edge }) s.found).cell.some
            → Chosen f p (cond x (record { cell = b.cell; m = a.m.point; ls = a.s.point; on_edge = a.m.edge || a.s.edge }) s.found) (q + 1)
        go true h =
            record { pass = q; i = b.i; j = b.j; made = omega arith; stands = pass_stands f s.window p.n t; m = refl; ls = refl; edge = refl }
        go false h = longer s.found q (q + 1) (omega arith) (old h)

    step_chosen : T (step_of f p s).found.cell.some → Chosen f p (step_of f p s).found (q + 1)
    unfolding s b step_of search_refused
    step_chosen = go b.cell.some new_chosen
      where
        n : Counts
        n = counted_of s.counts b

        go : (x : Bool)
            → (T x → T (found_of b (place_of p s.window b) s.found).cell.some → Chosen f p (found_of b (place_of p s.window b) s.found) (q + 1))
            → T (cond x (moved_of p s n b) (search_refused s n)).found.cell.some → Chosen f p (cond x (moved_of p s n b) (search_refused s n)).found (q + 1)
        go true h t = rw (moved_found p s n b) (h tt (rw (moved_found p s n b) at t))
        go false h t = longer s.found q (q + 1) (omega arith) (old t)

  pub chosen : (q : ℕ) → T (after_passes f p q).found.cell.some → Chosen f p (after_passes f p q).found (after_passes f p q).counts.passes
  unfolding start_of s
  chosen =
      after_ind f p (λ (q : ℕ) (s : Search). T s.found.cell.some → Chosen f p s.found s.counts.passes)
      (λ h. absurd h)
      (λ q g h t.
      subst (Chosen f p (step_of f p (after_passes f p q)).found) (sym (passes_after f p q g))
      (step_chosen q (λ o. subst (Chosen f p (after_passes f p q).found) ((trail f p q).on g) (h o)) t))
      (λ q g h t. h t)
