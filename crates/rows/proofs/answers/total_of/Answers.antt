-- `rows::answers::total_of` meets its contract. Assumes nothing.
use Rattle.rows.specs.Answers.{total_for}
use Rattle.rows.proofs.answers.total_of.Goals as goal

pub returns : goal.returns
unfolding total_for
returns c = rw (← c.policy_of.ensures, ← c.total_variance_run-t.ensures, ← c.numbered.ensures) c.write_total.ensures
