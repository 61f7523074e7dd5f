-- `calibrate::decided` meets its contract. Assumes nothing.
use mathlib.Core.Path.{◌∙◌}
use Rattle.calibrate.proofs.Deciding.{decided_is}
use Rattle.calibrate.proofs.decided.Goals as goal

pub returns : goal.returns
returns c = c.search_end.ensures
    ∙ decided_is c.args.tau c.args.config c.args.k.now c.args.w.now c.args.weights.now c.requires c.range_of-range.result c.highest-a_max.result c.plan_of-plan.result c.limits_of-limits.result c.run-s.result
    c.range_of-range.ensures c.highest-a_max.ensures c.plan_of-plan.ensures c.limits_of-limits.ensures c.run-s.ensures
