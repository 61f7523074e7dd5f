-- What a passed test says of a run: how many records it has. Assumes nothing.
use mathlib.Core.Path.{◌≡◌, refl, sym, ◌∙◌}
use mathlib.Core.Bool.{Bool, true, false, ◌||◌, cond}
use mathlib.Core.List.{List}
use Prim.Native.Nat.{ℕ, ◌≤◌}
use native.Mathlib.Omega.{arith}
use lib.Dec.{ltb}
use lib.Ieee.{Float}
use lib.ListN.{length}
use borrow.Author.Tests.{ltb-false}
use Rattle.laws.proofs.Choices.{passed_number}
use Rattle.surface.specs.declared.types.Run.{Run}
use Rattle.laws.specs.Choice.{unless}
use Rattle.surface.specs.Runs.{taus_of, first_bad, rises_of, check_run}
use Rattle.surface.specs.Axis.{grid_number}
use Rattle.surface.specs.Surface.{surface_grid_number}

few_by : (n m : ℕ) (b : Bool) → ltb 32 n ≡ b → cond b 11 m ≡ 0 → n ≤ 32
few_by n m true e h = absurd (omega (arith, h))
few_by n m false e h = ltb-false 32 n e

-- a run that passes has at most 32 records
few : (run : Run) → check_run run ≡ 0 → run.count ≤ 32
unfolding check_run
few run z = few_by run.count _ (ltb 32 run.count) refl z

no_refusal : (b : Bool) (m : ℕ) → cond b 11 m ≡ 0 → m ≡ 0
no_refusal true m h = absurd (omega (arith, h))
no_refusal false m h = h

two_by : (n m : ℕ) (b : Bool) → ltb n 2 ≡ b → cond b 32 m ≡ 0 → 2 ≤ n
two_by n m true e h = absurd (omega (arith, h))
two_by n m false e h = ltb-false n 2 e

-- and at least two
two : (run : Run) → check_run run ≡ 0 → 2 ≤ run.count
unfolding check_run
two run z =
    let after = passed_number (first_bad run.recs run.count) (cond (ltb run.count 2) 32 (unless (rises_of (taus_of run.recs) run.count) 33 0)) (no_refusal (ltb 32 run.count) _ z) in
    two_by run.count _ (ltb run.count 2) refl after.1

-- so has one that passes beside two axes
pub entry_few : (run : Run) (k tau : List Float) {r : ℕ} → r ≡ surface_grid_number run k tau → r ≡ 0 → (2 ≤ run.count) × (run.count ≤ 32)
unfolding surface_grid_number
entry_few run k tau {r} e z =
    let passed = (passed_number (check_run run) (grid_number k tau) (no_refusal (ltb 64 (length k) || ltb 64 (length tau)) _ (sym e ∙ z))).0 in
    (two run passed, few run passed)
