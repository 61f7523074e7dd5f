-- Numbers in bytes, the low byte first. A byte past the end reads as 0. Definitions only.
use Rattle.std.specs.Prelude.{ℕ, ◌+◌, ◌*◌, List, get_or}

-- the four bytes from `at` as a number
abbrev pub u32_at : List ℕ → ℕ → ℕ
u32_at s at = get_or s at 0 + 256 * get_or s (at + 1) 0 + 65536 * get_or s (at + 2) 0 + 16777216 * get_or s (at + 3) 0

-- the eight bytes from `at` as a number
unfoldable pub u64_at : List ℕ → ℕ → ℕ
u64_at s at = u32_at s at + 4294967296 * u32_at s (at + 4)
