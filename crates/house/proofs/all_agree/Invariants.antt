-- What is left of the search answers for all of it.
use mathlib.Core.Path.{◌≡◌}
use mathlib.Core.List.{map}
use lib.ListN.{drop}
use Rattle.house.specs.File.{quote_of}
use Rattle.house.specs.Repeats.{all_agree}
use Rattle.house.specs.Next.{all_agree_next}
use Rattle.house.proofs.all_agree.Given as goal

abbrev pub invariant-loop-i : goal.invariant-loop-i
invariant-loop-i l = all_agree_next (drop l.i (map quote_of l.sent)) ≡ all_agree (map quote_of l.sent)
