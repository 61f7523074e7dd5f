use Rattle.std.proofs.Common.{◌≤◌, ◌+◌, ◌*◌, take}
use Rattle.text.specs.Digits.{each}
use Rattle.text.specs.Place.{Says}
use Rattle.text.proofs.page.Page.values.Given as goal

abbrev pub invariant-loop-x : goal.invariant-loop-x
invariant-loop-x g l = (l.self.at ≤ l.initial.self.at + (g.T.Figure.most + 1) * l.x-index) × Says l.initial.self l.self (each g.T.Figure.text (take l.x-index l.xs))
