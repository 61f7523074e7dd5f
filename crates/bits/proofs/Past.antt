-- Past the end every number in bytes is 0. Assumes nothing.
use Prim.Native.Nat.{ℕ, ◌+◌, ◌≤◌}
use mathlib.Core.Path.{◌≡◌}
use mathlib.Core.List.{List}
use native.Mathlib.Omega.{arith}
use lib.ListN.{length, get_or-eq_default}
use Rattle.bits.specs.Bytes.{u32_at, u64_at}

-- past the end every number is 0
pub past32 : (s : List ℕ) (at : ℕ) → length s ≤ at → 0 ≡ u32_at s at
past32 s at h =
    omega (arith, get_or-eq_default s 0 h, get_or-eq_default s 0 (past 1), get_or-eq_default s 0 (past 2), get_or-eq_default s 0 (past 3))
  where
    past : (k : ℕ) → length s ≤ at + k
    past k = omega arith

pub past64 : (s : List ℕ) (at : ℕ) → length s ≤ at → 0 ≡ u64_at s at
unfolding u64_at
past64 s at h =
    let far : length s ≤ at + 4 = omega arith in
    let lo : 0 ≡ u32_at s at = past32 s at h in
    let hi : 0 ≡ u32_at s (at + 4) = past32 s (at + 4) far in
    omega arith
