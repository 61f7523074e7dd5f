-- What a refusal says of the rest of a loop over records. Assumes nothing.
use mathlib.Core.Path.{◌≡◌, refl, sym}
use mathlib.Core.List.{List}
use Prim.Native.Nat.{ℕ, ◌+◌, ◌<◌}
use Rattle.laws.specs.Loop.{for}
use Rattle.laws.proofs.Loops.{again, halted}
use Rattle.refusals.specs.declared.Refusal.{Refusal}
use Rattle.refusals.specs.Numbers.{refusal_number}
use Rattle.refusals.proofs.Numbers.{check_stops}
use Rattle.slice.specs.declared.SviSlice.{SviSlice}
use Rattle.slice.specs.Slice.{number_of}
use Rattle.surface.specs.Runs.{bad_turn, slice_at}

-- the first bad record's number is that of all
pub bad_stays : (recs : List SviSlice) (i n : ℕ) (e : Refusal) {w : ℕ} → i < n → refusal_number e ≡ number_of (slice_at recs i) → for i n (bad_turn recs) 0 ≡ w → refusal_number e ≡ w
bad_stays recs i n e l h inv = halted (bad_turn recs) (i + 1) n (λ j. sym (check_stops (number_of (slice_at recs j)) (λ n. n) e refl)) (again (bad_turn recs) i n l h inv)
