use Rattle.std.proofs.Common.{◌++◌, ◌+◌, ap₂, take, drop, ◌∙◌}
use Rattle.std.proofs.lemmas.List.{length_push}
use Rattle.std.proofs.lemmas.Iterator.Adapters.{YieldsList-from_rev_slice}
use Rattle.std.proofs.lemmas.Iterator.Consumers.{YieldsList-from_enumerate, YieldsList-turn, YieldsList-end}
use Rattle.weights.specs.Weights.{insert_of}
use Rattle.weights.proofs.Places.{turned, all_turned, sort_start, sort_next, sort_end}
use Rattle.weights.proofs.sort.Goals as goal

pub loop-m-init : goal.loop-m-init
loop-m-init c = sort_start c.args.weights.now c.args.room.now

pub loop-m-preserved : goal.loop-m-preserved
loop-m-preserved c =
    let l = c.loop-m in
    let t = turned c.args.weights.now _ _ _ (YieldsList-turn (YieldsList-from_enumerate (YieldsList-from_rev_slice c.args.weights.now cc) cc) l.yielded _ l.yielded_by _ _ _ c.in-Some.is c.next.ensures.steps) in
    rw (length_push l.yielded (c.in-Some.m, c.in-Some.w))
    (sort_next c.args.weights.now c.args.room.now l.room c.insert.new.a _ t.0 l.invariant c.insert.auto.a
    (c.insert.ensures ∙ ap₂ (λ w m. insert_of w (take m l.room) ++ drop (m + 1) l.room) t.2 t.1))

pub returns : goal.returns
returns c =
    let e = YieldsList-end (YieldsList-from_enumerate (YieldsList-from_rev_slice c.args.weights.now cc) cc) c.loop-m.yielded _ c.loop-m.yielded_by _ _ c.in-None.is c.next.ensures.steps in
    sort_end c.args.weights.now c.args.room.now c.loop-m.room _ (e.1 ∙ all_turned c.args.weights.now) c.loop-m.invariant
