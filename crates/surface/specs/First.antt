-- The first node of a run, and where a tau is before it. Definitions only.
-- docs/METHOD.md, 'Surfaces and diagnostics'.
use Rattle.std.specs.Prelude.{◌≡◌, true, false, Float}
use Rattle.std.specs.Float.Ieee.{lt}
use Rattle.laws.specs.Floats.{at}
use Rattle.surface.specs.declared.types.Run.{Run}
use Rattle.surface.specs.Runs.{slice_at}
use Rattle.surface.specs.Lookup.{near_of}
use Rattle.surface.specs.Surface.{tols_of}

-- the tau of the first record, and its tolerance
abbrev pub first_tau : Run → Float
first_tau run = (slice_at run.recs 0).tau

abbrev pub first_tolerance : Run → Float
first_tolerance run = at (tols_of run) 0

-- tau is less than the first node, and not within its tolerance
pub record BeforeFirst (run : Run) (tau : Float) : Type 0 where
  pub less : lt tau (first_tau run) ≡ true
  pub not_on_it : near_of (first_tau run) tau (first_tolerance run) ≡ false
