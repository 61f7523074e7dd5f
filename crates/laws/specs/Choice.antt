-- A chain of tests, each with its refusal, in the order in which they are made. Definitions only.
use Rattle.std.specs.Prelude.{Bool, cond, ℕ, eqb}

-- a test that holds goes on to the rest; one that fails gives the refusal
abbrev pub unless : {A : Type 0} → Bool → A → A → A
unless holds refusal rest = cond holds rest refusal

-- a number refuses: what it says stands, else the rest
abbrev pub refusing : {A : Type 0} → ℕ → (ℕ → A) → A → A
refusing number refusal rest = unless (eqb number 0) (refusal number) rest
