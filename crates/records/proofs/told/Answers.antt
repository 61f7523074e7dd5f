-- `records::told` meets its contract. Assumes nothing.
use Rattle.records.proofs.told.Goals as goal

pub returns-in-Err : goal.returns-in-Err
returns-in-Err c = rw (c.in-Err.is, ← c.number.ensures) c.refusal.ensures
