use mathlib.Core.Path.{ap}
use native.Mathlib.Nat.{mod-eq_of_lt}
use Prim.Native.Nat.{ℕ, ◌+◌, ◌*◌, ◌^◌}
use Rattle.roots.specs.Root.{sq}
use Rattle.roots.proofs.DigitLoop.{even_turn, odd_turn}
use Rattle.roots.proofs.whole.digits.Goals as goal

pub loop-left-init : goal.loop-left-init
loop-left-init c = record {
  small = c.requires.0;
  room = c.requires.1;
  sum = ap (λ (w : ℕ). (sq c.args.s.root + c.args.s.rem) * 2 ^ (c.args.pairs * 2) + w) (mod-eq_of_lt c.requires.2);
  few = c.requires.3;
}

pub loop-left-preserved-then-next-trial : goal.loop-left-preserved-then-next-trial
loop-left-preserved-then-next-trial c = even_turn _ _ _ _ _ c.loop-left.invariant c.loop-left-test.true c.if-next-trial.true

pub loop-left-preserved : goal.loop-left-preserved
loop-left-preserved c = odd_turn _ _ _ _ _ c.loop-left.invariant c.loop-left-test.true c.if-next-trial.false
