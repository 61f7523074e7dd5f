-- `Large::turns` meets its contract. That the quotient is in the cast's range is a fact of `ExpReduce`. Assumes nothing.
use Rattle.exponent.specs.Exp.{turns_of}
use Rattle.exponent.proofs.ExpReduce.{cast_fine}
use Rattle.exponent.proofs.Large.turns.Goals as goal

pub truncating_f64_to_u64-requires : goal.truncating_f64_to_u64-requires
truncating_f64_to_u64-requires c = let both = cast_fine c.args.self.size c.args.self.above_edge c.args.self.at_most_746 in record { lower_bound = both.0; upper_bound = both.1 }

pub returns : goal.returns
unfolding turns_of
returns c = rw c.truncating_f64_to_u64.ensures
