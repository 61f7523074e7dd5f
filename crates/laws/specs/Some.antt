-- Some number below another has a property. Definitions only.
use Rattle.std.specs.Prelude.{ℕ, ◌<◌}

-- P holds of some number below n
abbrev pub Some : ℕ → (ℕ → Type 0) → Type 0
Some n P = (i : ℕ) × (i < n) × P i
