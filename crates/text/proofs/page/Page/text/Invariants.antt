use Rattle.std.proofs.Common.{◌≡◌, ◌+◌, take}
use Rattle.text.specs.Place.{Says}
use Rattle.text.proofs.page.Page.text.Given as goal

abbrev pub invariant-loop-b : goal.invariant-loop-b
invariant-loop-b l = (l.self.at ≡ l.initial.self.at + l.b-index) × Says l.initial.self l.self (take l.b-index l.text)
