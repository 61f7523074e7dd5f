-- The number of the interface that callers in other languages see. Definitions only.
use Rattle.std.specs.Prelude.{ℕ}

-- changes with every layout or meaning that a caller could notice: docs/ABI.md
abbrev pub abi_number : ℕ
abi_number = 4
