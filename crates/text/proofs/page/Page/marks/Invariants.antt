use Rattle.std.proofs.Common.{◌≡◌, ◌+◌, [], ◌∷◌, false, cond, get_or}
use Rattle.text.specs.Place.{Says}
use Rattle.text.proofs.Writing.{pieces}
use Rattle.text.proofs.page.Page.marks.Given as goal

abbrev pub invariant-loop-mark : goal.invariant-loop-mark
invariant-loop-mark l = (l.self.at ≡ l.initial.self.at + l.mark-index) × Says l.initial.self l.self (pieces (λ i. cond (get_or l.active i false) 49 48 ∷ []) l.mark-index)
