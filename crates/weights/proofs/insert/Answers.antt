use Rattle.std.proofs.Common.{◌≡◌, ℕ, take, subst, arith}
use Rattle.std.proofs.lemmas.List.{length-take-le}
use Rattle.weights.proofs.Places.{Passing, passing_next, passing_room}
use Rattle.weights.proofs.insert.Goals as goal

pub loop-y-preserved : goal.loop-y-preserved
loop-y-preserved c = rw (c.pick.ensures, c.pick-carry.ensures) (passing_next _ _ _ _ _ (omega arith) c.loop-y.invariant)

pub returns : goal.returns
returns c =
    let l = c.loop-y in
    let e : l.y-index ≡ c.args.n = omega (arith, c.loop-y-test.false, l.auto.y-items, l.auto.y-index-end, length-take-le c.args.n c.args.a.now (omega arith)) in
    passing_room _ _ _ _ _ (omega arith) (subst (λ (k : ℕ). Passing k c.args.x l.carry (take c.args.n c.args.a.now) l.y-items) e l.invariant)
