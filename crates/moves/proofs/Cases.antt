-- The cases of a move: what holds of each of the three holds of a move; and a window is recentred, or shrunk, only where the settings leave one more. Assumes nothing.
use Rattle.std.proofs.Common.{◌≡◌, ◌<◌, true, ◌&&◌, ◌||◌, ltb, ltb-true}
use Rattle.laws.proofs.Choices.{cond_test, both}
use Rattle.records.specs.declared.Counts.{Counts}
use Rattle.moves.specs.declared.PassBest.{PassBest}
use Rattle.moves.specs.declared.Place.{Place}
use Rattle.moves.specs.declared.Plan.{Plan}
use Rattle.moves.specs.declared.Search.{Search}
use Rattle.moves.specs.Moves.{place_of, found_of, improves, recentred, shrunk, stopped, can_recentre, can_shrink, moved_of}

pub moved_ind :
    (P : Search → Type 0) (p : Plan) (s : Search) (n : Counts) (b : PassBest) →
    (let a = place_of p s.window b in
    let o = found_of b a s.found in
    (can_recentre p s n b a ≡ true → P (recentred p s n a o)) → (can_shrink p s n ≡ true → P (shrunk p s n o)) → P (stopped s n o) → P (moved_of p s n b))
unfolding moved_of
moved_ind P p s n b x y z =
    cond_test P (can_recentre p s n b (place_of p s.window b)) x (λ e. cond_test P (can_shrink p s n) y (λ e. z))

pub recentre_left : (p : Plan) (s : Search) (n : Counts) (b : PassBest) (a : Place) → can_recentre p s n b a ≡ true → n.recentres < p.max_recentres
unfolding can_recentre
recentre_left p s n b a e =
    let x = both (a.m.inner_edge || a.s.inner_edge) (improves b.cell s.found.cell && ltb n.recentres p.max_recentres) e in
    ltb-true n.recentres p.max_recentres (both (improves b.cell s.found.cell) (ltb n.recentres p.max_recentres) x.1).1

pub shrink_left : (p : Plan) (s : Search) (n : Counts) → can_shrink p s n ≡ true → n.shrinks < p.refinements
unfolding can_shrink
shrink_left p s n e = ltb-true n.shrinks p.refinements (both (ltb n.shrinks p.refinements) _ e).0
