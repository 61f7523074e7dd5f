-- What is kept so far stands at the front of each column.
use Prim.Native.Nat.{◌≤◌}
use mathlib.Core.List.{map}
use Rattle.house.proofs.Columns.{Column}
use Rattle.house.proofs.Repeating.{rest}
use Rattle.house.specs.File.{quote_of}
use Rattle.house.specs.Repeats.{kept}
use Rattle.house.specs.Check.{k_of, w_of, weight_of}
use Rattle.house.proofs.keep.Given as goal

abbrev pub invariant-loop-i : goal.invariant-loop-i
invariant-loop-i l = (l.m ≤ l.i)
    × Column k_of (kept (map quote_of l.sent)) (rest l.sent l.i) l.m l.initial.k l.k
    × Column w_of (kept (map quote_of l.sent)) (rest l.sent l.i) l.m l.initial.w l.w
    × Column weight_of (kept (map quote_of l.sent)) (rest l.sent l.i) l.m l.initial.weight l.weight
