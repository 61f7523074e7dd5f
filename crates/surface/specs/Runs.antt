-- A lent run of slice records, and the tests that make it a surface (svi.rs: `SviSurface::new`, after each record's own tests). Definitions only.
-- docs/METHOD.md, 'Surfaces and diagnostics'.
use Rattle.std.specs.Prelude.{Bool, true, ◌&&◌, cond, List, [], ◌∷◌, ℕ, zero, suc, ◌-◌, eqb, ltb, get_or, set, length, replicate, Float}
use Rattle.std.specs.Float.{nan}
use Rattle.std.specs.Float.Ieee.{lt}
use Rattle.laws.specs.Choice.{unless, refusing}
use Rattle.laws.specs.Floats.{+0, at}
use Rattle.laws.specs.Loop.{for}
use Rattle.slice.specs.declared.SviSlice.{SviSlice}
use Rattle.slice.specs.Slice.{number_of, no_slice}
use Rattle.surface.specs.declared.types.Run.{Run}

-- ---- a copy of a lent run

-- the first n records, filled up with records of zeros
unfoldable pub pad : ℕ → List SviSlice → List SviSlice
pad zero xs = []
pad (suc n) [] = no_slice ∷ pad n []
pad (suc n) (x ∷ xs) = x ∷ pad n xs

-- a lent run, copied: how many there are, and the first 32
abbrev pub run_of : List SviSlice → Run
run_of xs = record { count = length xs; recs = pad 32 xs }

-- what a list of records holds past its end; no function reads there
abbrev pub past : SviSlice
past = record { tau = nan; a = nan; b = nan; rho = nan; m = nan; sigma = nan; k_range = record { lo = nan; hi = nan } }

-- record i
abbrev pub slice_at : List SviSlice → ℕ → SviSlice
slice_at recs i = get_or recs i past

-- ---- the tests

abbrev pub tau_turn : List SviSlice → ℕ → List Float → List Float
tau_turn recs i taus = set taus i (slice_at recs i).tau

-- the tau of each record
unfoldable pub taus_of : List SviSlice → List Float
taus_of recs = for 0 32 (tau_turn recs) (replicate 32 +0)

abbrev pub bad_turn : List SviSlice → ℕ → ℕ → ℕ
bad_turn recs i bad = cond (eqb bad 0) (number_of (slice_at recs i)) bad

-- the number of the first of n records that fails a test, or 0
unfoldable pub first_bad : List SviSlice → ℕ → ℕ
first_bad recs n = for 0 n (bad_turn recs) 0

abbrev pub rise_turn : List Float → ℕ → Bool → Bool
rise_turn taus i ok = ok && lt (at taus (i - 1)) (at taus i)

-- each of n taus is above the one before it
unfoldable pub rises_of : List Float → ℕ → Bool
rises_of taus n = for 1 n (rise_turn taus) true

-- 11, over 32 records; 21 to 28, the first bad record's number; 32, under two; 33, tau not rising; 0 for a surface
unfoldable pub check_run : Run → ℕ
check_run run =
    cond (ltb 32 run.count) 11
    (refusing (first_bad run.recs run.count) (λ n. n)
    (cond (ltb run.count 2) 32
    (unless (rises_of (taus_of run.recs) run.count) 33 0)))
