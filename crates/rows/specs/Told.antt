-- A result as it is told to other languages: the number of its refusal, or 0, and its value. Definitions only.
use Rattle.std.specs.Prelude.{ℕ, Result, Ok, Err}
use Rattle.rows.specs.declared.Answer.{Answer}

-- `none` is the value of a refusal
abbrev pub told_as : {A : Type 0} → A → Result A ℕ → Answer A
told_as none (Ok a) = record { number = 0; value = a }
told_as none (Err n) = record { number = n; value = none }
