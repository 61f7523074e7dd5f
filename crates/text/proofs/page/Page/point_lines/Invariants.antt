use Rattle.std.proofs.Common.{◌≤◌, ◌+◌, ◌*◌}
use Rattle.text.specs.Place.{Says}
use Rattle.text.specs.Lines.{point_line}
use Rattle.text.proofs.Writing.{pieces}
use Rattle.text.proofs.page.Page.point_lines.Given as goal

abbrev pub invariant-loop-point : goal.invariant-loop-point
invariant-loop-point l = (l.self.at ≤ l.initial.self.at + 74 * l.point-index) × Says l.initial.self l.self (pieces (point_line l.residuals) l.point-index)
