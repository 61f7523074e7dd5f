-- A refusal of `diagnose` leaves the lent room as it was, and its number is that of the first test that fails. Assumes nothing.
use mathlib.Core.Path.{◌≡◌, refl, sym}
use mathlib.Core.Bool.{Bool, true, false}
use mathlib.Core.List.{List}
use Prim.Native.Nat.{ℕ}
use native.Mathlib.Omega.{arith}
use lib.Dec.{eqb}
use lib.ListN.{length}
use lib.Ieee.{Float}
use borrow.Author.Tests.{eqb-true}
use Rattle.laws.specs.Choice.{unless}
use Rattle.surface.specs.declared.types.Run.{Run}
use Rattle.surface.specs.declared.types.ShortExpiryPolicy.{ShortExpiryPolicy}
use Rattle.diagnostics.specs.declared.report.DiagnosticsConfig.{DiagnosticsConfig}
use Rattle.std.specs.Prelude.{Err}
use Rattle.diagnostics.specs.Walk.{State}
use Rattle.diagnostics.specs.Diagnostics.{with_room, reported, diagnose_number, diagnose_of, diagnosed_number}

kept : (b : Bool) (m n : ℕ) (room : List Float) (st : State) → (unless b (with_room (Err m) room) (reported st)).answer ≡ Err n → (unless b (with_room (Err m) room) (reported st)).room ≡ room
unfolding reported
kept true m n room st e = let z : ◌≡◌ {A = ℕ} 0 1 = cc in absurd (omega arith)
kept false m n room st e = refl

numbered : (b : Bool) (m : ℕ) (room : List Float) (st : State) → eqb m 0 ≡ b → diagnosed_number (unless b (with_room (Err m) room) (reported st)).answer ≡ m
unfolding reported
numbered true m room st e = sym (eqb-true m 0 e)
numbered false m room st e = refl

module _ (run : Run) (policy : ShortExpiryPolicy) (ks axis : List Float) (tol : DiagnosticsConfig) (room : List Float) where
  pub refusal_keeps_room : (n : ℕ) → (diagnose_of run policy ks axis tol room).answer ≡ Err n → (diagnose_of run policy ks axis tol room).room ≡ room
  unfolding diagnose_of
  refusal_keeps_room n e = kept (eqb (diagnose_number run ks axis tol (length room)) 0) (diagnose_number run ks axis tol (length room)) n room _ e

  pub number_of_answer : diagnosed_number (diagnose_of run policy ks axis tol room).answer ≡ diagnose_number run ks axis tol (length room)
  unfolding diagnose_of
  number_of_answer = numbered (eqb (diagnose_number run ks axis tol (length room)) 0) (diagnose_number run ks axis tol (length room)) room _ refl
