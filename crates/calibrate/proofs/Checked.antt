-- A check of which only is asked whether it fails: its number is 0 where it does not. Assumes nothing.
use mathlib.Core.Path.{◌≡◌, refl, sym, ap, ◌∙◌}
use mathlib.Core.Bool.{Bool, true, false, not, cond}
use Prim.Native.Nat.{ℕ}
use lib.Dec.{eqb}
use Rattle.std.specs.Prelude.{Result, Ok, Err}
use Rattle.std.specs.Result.{is_err}
use Rattle.refusals.specs.declared.Refusal.{Refusal}
use Rattle.refusals.specs.Numbers.{number_in}
use Rattle.refusals.proofs.Numbers.{check_stops}

itself : (b : Bool) → cond b true false ≡ b
itself true = refl
itself false = refl

pub none_if_ok : (r : Result (Unit {0}) Refusal) {n : ℕ} → number_in r ≡ n → eqb n 0 ≡ not (is_err r)
none_if_ok (Ok a) h = sym (ap (λ (n : ℕ). eqb n 0) h)
none_if_ok (Err e) {n} h = sym (itself (eqb n 0)) ∙ sym (check_stops true (λ (n : ℕ). false) e h)
