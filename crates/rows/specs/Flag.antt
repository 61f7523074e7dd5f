-- A yes or no as a number: 1 or 0. Definitions only.
use Rattle.std.specs.Prelude.{Bool, cond, ℕ}

-- yes is 1, no is 0
abbrev pub flag : Bool → ℕ
flag b = cond b 1 0
