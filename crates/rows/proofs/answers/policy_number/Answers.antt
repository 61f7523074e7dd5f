-- `rows::answers::policy_number` meets its contract. Assumes nothing.
use Rattle.rows.proofs.answers.policy_number.Goals as goal

pub returns-in-Reject : goal.returns-in-Reject
returns-in-Reject c = rw c.in-Reject.is

pub returns-in-ConstantVol : goal.returns-in-ConstantVol
returns-in-ConstantVol c = rw c.in-ConstantVol.is
