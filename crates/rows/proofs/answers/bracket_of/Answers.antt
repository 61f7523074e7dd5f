-- `rows::answers::bracket_of` meets its contract. Assumes nothing.
use mathlib.Core.Path.{refl}
use Rattle.rows.specs.Answers.{bracket_for}
use Rattle.rows.proofs.answers.bracket_of.Goals as goal

pub returns-in-Short : goal.returns-in-Short
unfolding bracket_for
returns-in-Short c = rw (← c.policy_of.ensures, ← c.bracket_run-bracket.ensures, ← c.told-a.ensures, c.in-Short.is) (refl, refl, refl)

pub returns-in-Segment : goal.returns-in-Segment
unfolding bracket_for
returns-in-Segment c = rw (← c.policy_of.ensures, ← c.bracket_run-bracket.ensures, ← c.told-a.ensures, c.in-Segment.is) (refl, refl, refl)
