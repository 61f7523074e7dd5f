-- `Large::reduced` meets its contract: there are 1100 turns at most. Assumes nothing.
use Prim.Native.Nat.{ℕ, ◌≤◌}
use mathlib.Core.Path.{sym, subst}
use Rattle.exponent.specs.Exp.{rest_of, rest_low_of}
use Rattle.exponent.proofs.ExpReduce.{turns_le}
use Rattle.exponent.proofs.Large.reduced.Goals as goal

pub invariant_of-result : goal.invariant_of-result
invariant_of-result c = record { few = subst (λ (n : ℕ). n ≤ 1100) (sym c.turns-turns.ensures) (turns_le c.args.self.size c.args.self.above_edge c.args.self.at_most_746) }

pub returns-clause-rest : goal.returns-clause-rest
unfolding rest_of
returns-clause-rest c = rw (c.nearest_u64_to_f64-h.ensures, c.turns-turns.ensures)

pub returns-clause-low : goal.returns-clause-low
unfolding rest_low_of rest_of
returns-clause-low c = rw (c.nearest_u64_to_f64-h.ensures, c.turns-turns.ensures)
