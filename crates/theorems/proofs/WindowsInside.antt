-- Every window of a search lies within its domain, whatever its cells are. Assumes nothing.
use mathlib.Core.Path.{◌≡◌, refl}
use mathlib.Core.Bool.{Bool, true, false, ◌||◌, cond}
use Prim.Native.Nat.{ℕ}
use lib.Dec.{T}
use lib.Ieee.{Float, lt, ne}
use Rattle.laws.specs.Floats.{min_of, max_of}
use Rattle.laws.proofs.Choices.{cond_ind}
use Rattle.laws.proofs.Order.{lt_not_self}
use Rattle.moves.specs.declared.Axis.{Axis}
use Rattle.moves.specs.declared.Plan.{Plan}
use Rattle.moves.specs.declared.Search.{Search}
use Rattle.moves.specs.Moves.{around, recentred, narrowed, shrunk, stopped}
use Rattle.search.specs.Search.{CellFn, pass_of, counted_of, search_refused, step_of, start_of, after_passes}
use Rattle.search.specs.Inside.{Within, Inside}
use Rattle.moves.proofs.Cases.{moved_ind}
use Rattle.search.proofs.Trail.{after_ind}

-- the larger of two is not below the second
max_above : (x y : Float) → T (lt (max_of x y) y) → ⊥
unfolding max_of
max_above x y = go (lt x y) (ne x x) refl
  where
    go : (a b : Bool) → lt x y ≡ a → T (lt (cond (a || b) y x) y) → ⊥
    go true b e = lt_not_self y
    go false true e = lt_not_self y
    go false false e = λ h. rw e at h

-- nor the smaller above it
min_below : (x y : Float) → T (lt y (min_of x y)) → ⊥
unfolding min_of
min_below x y = go (lt y x) (ne x x) refl
  where
    go : (a b : Bool) → lt y x ≡ a → T (lt y (cond (a || b) y x)) → ⊥
    go true b e = lt_not_self y
    go false true e = lt_not_self y
    go false false e = λ h. rw e at h

around_within : (c h : Float) (d : Axis) → Within d (around c h d)
around_within c h d = record { lo = max_above _ d.lo; hi = min_below _ d.hi }

-- a pass leaves a window inside the domain
step_inside : (f : CellFn) (p : Plan) (s : Search) → Inside p.domain s.window → Inside p.domain (step_of f p s).window
unfolding step_of recentred shrunk narrowed stopped search_refused
step_inside f p s h =
    let b = pass_of f s.window p.n in
    cond_ind (λ (t : Search). Inside p.domain t.window) b.cell.some
    (moved_ind (λ (t : Search). Inside p.domain t.window) p s (counted_of s.counts b) b
    (λ e. record { m = around_within _ _ p.domain.m; s = around_within _ _ p.domain.s })
    (λ e. record { m = around_within _ _ p.domain.m; s = around_within _ _ p.domain.s }) h)
    h

pub windows_inside : (f : CellFn) (p : Plan) (q : ℕ) → Inside p.domain (after_passes f p q).window
unfolding start_of
windows_inside f p =
    after_ind f p (λ (q : ℕ) (s : Search). Inside p.domain s.window)
    (record { m = record { lo = lt_not_self _; hi = lt_not_self _ }; s = record { lo = lt_not_self _; hi = lt_not_self _ } })
    (λ q g h. step_inside f p (after_passes f p q) h) (λ q g h. h)
