-- `weights::weigh` meets its contract. Assumes nothing.
use Rattle.weights.proofs.Places.{weighed_is}
use Rattle.weights.proofs.weigh.Goals as goal

pub returns : goal.returns
returns c = let h = weighed_is c.args.ratio c.args.weights.now c.args.room.now c.sort.new.room c.scale.new.room c.middle.result c.top-most.result c.all_good.result c.requires.0 c.sort.ensures c.middle.ensures c.top-most.ensures c.scale.ensures c.all_good.ensures in
    record { value = h.0; room_after = h.1 }
