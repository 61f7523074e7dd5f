-- `tail` meets its contract: what is left of the turns, done to the present p, is the whole. Assumes nothing.
use Rattle.std.proofs.Common.{◌≡◌, ℕ, ◌-◌, ◌*◌}
use lib.Ieee.{Float}
use Rattle.laws.specs.Loop.{for}
use Rattle.laws.specs.Floats.{◌+f◌, ◌*f◌, ◌/f◌, num, two}
use Rattle.exponent.specs.Ln.{tail_of}
use Rattle.exponent.proofs.tail.Given as goal

abbrev pub invariant-loop-j : goal.invariant-loop-j
invariant-loop-j l = for l.j 11 (λ (j : ℕ) (p : Float). (p +f two /f num (25 - 2 * j)) *f l.z) l.p ≡ tail_of l.z
