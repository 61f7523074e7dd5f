-- `moves::moved` meets its contract. Assumes nothing.
use Rattle.std.proofs.Common.{sym, ◌∙◌}
use Rattle.moves.specs.Moves.{moved_of}
use Rattle.moves.proofs.Cases.{recentre_left, shrink_left}
use Rattle.moves.proofs.moved.Goals as goal

pub recentre-requires : goal.recentre-requires
recentre-requires c = recentre_left _ _ _ _ _ (sym c.can_recentre.ensures ∙ c.if-can_recentre.true)

pub returns-then-can_recentre : goal.returns-then-can_recentre
unfolding moved_of
returns-then-can_recentre c = rw (← c.place_of-a.ensures, ← c.found_of-o.ensures, ← c.can_recentre.ensures, c.if-can_recentre.true) c.recentre.ensures

pub shrink-requires : goal.shrink-requires
shrink-requires c = shrink_left _ _ _ (sym c.can_shrink.ensures ∙ c.if-can_shrink.true)

pub returns-then-can_shrink : goal.returns-then-can_shrink
unfolding moved_of
returns-then-can_shrink c = rw (← c.place_of-a.ensures, ← c.found_of-o.ensures, ← c.can_recentre.ensures, c.if-can_recentre.false, ← c.can_shrink.ensures, c.if-can_shrink.true) c.shrink.ensures

pub returns : goal.returns
unfolding moved_of
returns c = rw (← c.place_of-a.ensures, ← c.found_of-o.ensures, ← c.can_recentre.ensures, c.if-can_recentre.false, ← c.can_shrink.ensures, c.if-can_shrink.false) c.stop.ensures
