-- The last node of a run, and where a tau is beyond it. Definitions only.
-- docs/METHOD.md, 'Surfaces and diagnostics'.
use Rattle.std.specs.Prelude.{◌≡◌, true, false, ℕ, ◌-◌, ◌<◌, T, Float}
use Rattle.std.specs.Float.{binary64}
use Rattle.std.specs.Float.Ieee.{fits, lt}
use Rattle.laws.specs.Floats.{at}
use Rattle.surface.specs.declared.types.Run.{Run}
use Rattle.surface.specs.Runs.{slice_at}
use Rattle.surface.specs.Lookup.{near_of}
use Rattle.surface.specs.Surface.{tols_of}

-- the tau of the last record, and its tolerance
abbrev pub last_tau : Run → Float
last_tau run = (slice_at run.recs (run.count - 1)).tau

abbrev pub last_tolerance : Run → Float
last_tolerance run = at (tols_of run) (run.count - 1)

-- tau is greater than the last node, and not within its tolerance
pub record BeyondLast (run : Run) (tau : Float) : Type 0 where
  pub greater : lt (last_tau run) tau ≡ true
  pub not_on_it : near_of (last_tau run) tau (last_tolerance run) ≡ false

-- every tau is a value of binary64, as every float of a program is
abbrev pub TausFit : Run → Type 0
TausFit run = (i : ℕ) → i < run.count → T (fits binary64 (slice_at run.recs i).tau)
