-- Lent room: a list is written at its front, or nothing is; or each place below n is filled. Definitions only.
use Rattle.std.specs.Prelude.{List, ◌++◌, ℕ, eqb, length, drop, set}
use Rattle.laws.specs.Loop.{for}
use Rattle.laws.specs.Choice.{unless}

-- the list stands at the front, and the room beyond it is as it was
abbrev pub at_front : {A : Type 0} → List A → List A → List A
at_front list before = list ++ drop (length list) before

-- an answer with the number 0 writes its list; a refusal leaves the room as it was
unfoldable pub written : {A : Type 0} → ℕ → List A → List A → List A
written number list before = unless (eqb number 0) before (at_front list before)

-- v i in each place i below n, the others as they were
unfoldable pub filled_on : {A : Type 0} → ℕ → (ℕ → A) → List A → List A
filled_on n v before = for 0 n (λ i t. set t i (v i)) before
