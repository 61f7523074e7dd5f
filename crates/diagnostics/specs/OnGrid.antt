-- What a grid yields, point by point in walking order: k outside, tau inside. Definitions only.
-- docs/METHOD.md, 'Surfaces and diagnostics'.
use mathlib.Core.List.{List, [], ◌∷◌, ◌++◌, flat_map}
use Rattle.std.specs.Prelude.{ℕ, Float, Result, Ok, Err}
use Rattle.laws.specs.Floats.{◌-f◌, num}
use Rattle.surface.specs.declared.types.Run.{Run}
use Rattle.surface.specs.declared.types.ShortExpiryPolicy.{ShortExpiryPolicy}
use Rattle.surface.specs.Runs.{taus_of}
use Rattle.surface.specs.Surface.{tols_of}
use Rattle.diagnostics.specs.declared.tally.DiagnosticPoint.{DiagnosticPoint}
use Rattle.diagnostics.specs.declared.points.Reading.{Reading}
use Rattle.diagnostics.specs.Tally.{point_at}
use Rattle.diagnostics.specs.Walk.{PointFn, seen_on}

-- ---- one point, by what is seen there

-- its butterfly value, where it did not fail
abbrev pub butterfly_at : Float → Float → Result Reading ℕ → List DiagnosticPoint
butterfly_at k tau (Ok r) = point_at k tau r.g ∷ []
butterfly_at k tau (Err n) = []

-- its slope in tau, where it did not fail
abbrev pub slope_at : Float → Float → Result Reading ℕ → List DiagnosticPoint
slope_at k tau (Ok r) = point_at k tau r.w_tau ∷ []
slope_at k tau (Err n) = []

-- its failure, three numbers: k, tau and the refusal's number
abbrev pub failure_of : Float → Float → Result Reading ℕ → List Float
failure_of k tau (Ok r) = []
failure_of k tau (Err n) = k ∷ tau ∷ num n ∷ []

-- the gap of two neighbours, at the earlier tau, where neither failed
abbrev pub gap_between : Float → Float → Result Reading ℕ → Result Reading ℕ → List DiagnosticPoint
gap_between k tau (Ok r) (Ok s) = point_at k tau (s.w -f r.w) ∷ []
gap_between k tau (Ok r) (Err n) = []
gap_between k tau (Err n) (Ok r) = []
gap_between k tau (Err n) (Err m) = []

-- ---- a grid

-- a list for each grid point, one after the other
abbrev pub over_grid : {A : Type 0} → (Float → Float → List A) → List Float → List Float → List A
over_grid g ks taus = flat_map (λ k. flat_map (g k) taus) ks

-- a list for each two neighbours of x and what follows it
unfoldable pub pairs_from : {A : Type 0} → (Float → Float → List A) → Float → List Float → List A
pairs_from g x [] = []
pairs_from g x (y ∷ zs) = g x y ++ pairs_from g y zs

-- a list for each two neighbours of an axis
abbrev pub over_pairs : {A : Type 0} → (Float → Float → List A) → List Float → List A
over_pairs g [] = []
over_pairs g (x ∷ xs) = pairs_from g x xs

abbrev pub butterflies_on : PointFn → List Float → List Float → List DiagnosticPoint
butterflies_on f ks taus = over_grid (λ k tau. butterfly_at k tau (f k tau)) ks taus

abbrev pub slopes_on : PointFn → List Float → List Float → List DiagnosticPoint
slopes_on f ks taus = over_grid (λ k tau. slope_at k tau (f k tau)) ks taus

abbrev pub failures_on : PointFn → List Float → List Float → List Float
failures_on f ks taus = over_grid (λ k tau. failure_of k tau (f k tau)) ks taus

abbrev pub gaps_on : PointFn → List Float → List Float → List DiagnosticPoint
gaps_on f ks taus = flat_map (λ k. over_pairs (λ tau next. gap_between k tau (f k tau) (f k next)) taus) ks

-- what a surface shows at a point
abbrev pub seen_by : Run → ShortExpiryPolicy → PointFn
seen_by run policy = seen_on run.recs (taus_of run.recs) (tols_of run) run.count policy
