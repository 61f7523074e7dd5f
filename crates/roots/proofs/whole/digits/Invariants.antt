-- `roots::whole::digits` meets its contract: the loop's invariant is `Head`. Assumes nothing.
use Prim.Native.Nat.{◌+◌, ◌*◌, ◌^◌}
use Rattle.roots.specs.Root.{sq}
use Rattle.roots.proofs.DigitLoop.{Head}
use Rattle.roots.proofs.whole.digits.Given as goal

abbrev pub invariant-loop-left : goal.invariant-loop-left
invariant-loop-left l = Head ((sq l.initial.root + l.initial.rem) * 2 ^ (l.pairs * 2) + l.word) l.word l.left l.root l.rem
