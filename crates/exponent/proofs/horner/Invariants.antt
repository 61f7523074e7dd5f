-- `horner` meets its contract: what is left of the turns, done to the present e, is the whole. Assumes nothing.
use Rattle.std.proofs.Common.{◌≡◌, ℕ, ◌-◌}
use lib.Ieee.{Float}
use Rattle.laws.specs.Loop.{for}
use Rattle.laws.specs.Floats.{◌+f◌, ◌*f◌, ◌/f◌, num, one}
use Rattle.exponent.specs.Exp.{horner_of}
use Rattle.exponent.proofs.horner.Given as goal

abbrev pub invariant-loop-j : goal.invariant-loop-j
invariant-loop-j l = for l.j l.n (λ (j : ℕ) (e : Float). one +f l.x /f num (l.from - j) *f e) l.e ≡ horner_of l.x l.from l.n l.start
