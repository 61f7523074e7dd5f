-- `faces::marks` meets its contract. A member that is none of the seven marks nothing, as `set` beyond a list's end. Assumes nothing.
use mathlib.Core.Path.{◌≡◌}
use mathlib.Core.Bool.{true}
use Prim.Native.Nat.{◌-◌}
use lib.ListN.{length, set}
use Rattle.laws.specs.Loop.{for}
use Rattle.faces.specs.Faces.{member_of, face_marks}
use Rattle.faces.proofs.marks.Given as goal

abbrev pub invariant-loop-s : goal.invariant-loop-s
invariant-loop-s l = (length l.t ≡ 7) × (for l.s l.f.size (λ s t. set t (member_of l.f s) true) l.t ≡ face_marks l.f)

abbrev pub decreases-loop-s : goal.decreases-loop-s
decreases-loop-s l = l.f.size - l.s
