use Rattle.std.proofs.Common.{sym, ap, ◌∙◌}
use Rattle.house.proofs.Repeating.{next_met, next_passed, none_next}
use Rattle.house.specs.Repeats.{same_content}
use Rattle.house.proofs.agrees_next.Goals as goal

pub returns-then-number_of-q : goal.returns-then-number_of-q
returns-then-number_of-q c =
    c.same_content.ensures ∙ ap (same_content c.args.q) c.quote_of.ensures
    ∙ next_met c.args.q c.args.after.now c.loop-bytes.bytes-index c.loop-bytes-test.true c.loop-bytes.invariant (sym c.number_of.ensures ∙ c.if-number_of-q.true)

pub loop-bytes-preserved : goal.loop-bytes-preserved
loop-bytes-preserved c =
    next_passed c.args.q c.args.after.now c.loop-bytes.bytes-index c.loop-bytes-test.true c.loop-bytes.invariant (λ z. c.if-number_of-q.false (c.number_of.ensures ∙ z))

pub returns : goal.returns
returns c = none_next c.args.q c.args.after.now c.loop-bytes.bytes-index c.loop-bytes-test.false c.loop-bytes.invariant
