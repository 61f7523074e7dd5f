-- What is left of the search answers for all of it.
use mathlib.Core.Path.{◌≡◌}
use mathlib.Core.List.{map}
use lib.ListN.{drop}
use Rattle.house.specs.File.{quote_of}
use Rattle.house.specs.Next.{agrees_next}
use Rattle.house.proofs.agrees_next.Given as goal

abbrev pub invariant-loop-bytes : goal.invariant-loop-bytes
invariant-loop-bytes l = agrees_next l.q (drop l.bytes-index (map quote_of l.after)) ≡ agrees_next l.q (map quote_of l.after)
