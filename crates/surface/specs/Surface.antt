-- What a surface answers (svi.rs: `total_variance_at`, `region`, `covers_nodes`). Every operation is rounded once, in the order written. Definitions only.
-- docs/METHOD.md, 'Surfaces and diagnostics'.
use Rattle.std.specs.Prelude.{Bool, true, false, ◌&&◌, ◌||◌, cond, List, ℕ, ltb, length, Float, Result, Ok, Err}
use Rattle.laws.specs.Choice.{refusing}
use Rattle.laws.specs.Floats.{◌+f◌, ◌-f◌, ◌*f◌, ◌/f◌, one}
use Rattle.laws.specs.Loop.{for}
use Rattle.slice.specs.declared.SviSlice.{SviSlice}
use Rattle.slice.specs.declared.Values.{Values}
use Rattle.slice.specs.Slice.{holds_k, eval_raw}
use Rattle.point.specs.declared.TotalVariance.{TotalVariance}
use Rattle.point.specs.Point.{total_of}
use Rattle.surface.specs.declared.types.Run.{Run}
use Rattle.surface.specs.declared.types.Nodes.{Nodes}
use Rattle.surface.specs.declared.types.ShortExpiryPolicy.{ShortExpiryPolicy}
use Rattle.surface.specs.declared.types.Bracket.{Bracket}
use Rattle.surface.specs.declared.types.Bracket.TheVariants.{Segment, Short}
use Rattle.surface.specs.declared.types.Region.{Region}
use Rattle.surface.specs.declared.types.Region.TheVariants.{Calibrated, Extrapolated}
use Rattle.surface.specs.Runs.{slice_at, taus_of, check_run}
use Rattle.surface.specs.Lookup.{tolerances_of, bracket_of}
use Rattle.surface.specs.Axis.{grid_number, held_of}

-- ---- the region of a point

-- both slices' k ranges hold k
unfoldable pub both_hold : SviSlice → SviSlice → Float → Bool
both_hold lo hi k = holds_k lo.k_range k && holds_k hi.k_range k

abbrev pub region_by : Bool → Region
region_by true = Calibrated
region_by false = Extrapolated

-- Calibrated exactly in a segment of which both slices hold k
abbrev pub region_at : List SviSlice → Bracket → Float → Region
region_at recs (Segment lo hi x) k = region_by (both_hold (slice_at recs lo) (slice_at recs hi) k)
region_at recs Short k = Extrapolated

abbrev pub region_in : List SviSlice → Result Bracket ℕ → Float → Result Region ℕ
region_in recs (Ok b) k = Ok (region_at recs b k)
region_in recs (Err n) k = Err n

-- ---- the total variance at a point

-- linear in w between two slices, x the weight of the later; dw/dtau the slope over the gap of their taus
unfoldable pub mixed_of : Values → Values → Float → Float → Result TotalVariance ℕ
mixed_of l h x gap =
    total_of
    ((one -f x) *f l.w +f x *f h.w)
    ((one -f x) *f l.w_k +f x *f h.w_k)
    ((one -f x) *f l.w_kk +f x *f h.w_kk)
    ((h.w -f l.w) /f gap)

-- the first slice's, scaled by tau over its tau
unfoldable pub short_scaled : Values → Float → Float → Result TotalVariance ℕ
short_scaled v tau first =
    let scale = tau /f first in
    total_of (v.w *f scale) (v.w_k *f scale) (v.w_kk *f scale) (v.w /f first)

-- a refusal of the earlier slice comes first
abbrev pub blend_of : Result Values ℕ → Result Values ℕ → Float → Float → Result TotalVariance ℕ
blend_of (Err n) h x gap = Err n
blend_of (Ok l) (Err n) x gap = Err n
blend_of (Ok l) (Ok h) x gap = mixed_of l h x gap

abbrev pub short_in : Result Values ℕ → Float → Float → Result TotalVariance ℕ
short_in (Err n) tau first = Err n
short_in (Ok v) tau first = short_scaled v tau first

unfoldable pub segment_of : SviSlice → SviSlice → Float → Float → Result TotalVariance ℕ
segment_of lo hi x k = blend_of (eval_raw lo k) (eval_raw hi k) x (hi.tau -f lo.tau)

unfoldable pub short_from : SviSlice → Float → Float → Result TotalVariance ℕ
short_from s k tau = short_in (eval_raw s k) tau s.tau

-- `total_variance_at`, from the bracket on
abbrev pub variance_in : List SviSlice → Result Bracket ℕ → Float → Float → Result TotalVariance ℕ
variance_in recs (Ok (Segment lo hi x)) k tau = segment_of (slice_at recs lo) (slice_at recs hi) x k
variance_in recs (Ok Short) k tau = short_from (slice_at recs 0) k tau
variance_in recs (Err n) k tau = Err n

unfoldable pub variance_at : List SviSlice → List Float → List Float → ℕ → ShortExpiryPolicy → Float → Float → Result TotalVariance ℕ
variance_at recs taus tols n policy k tau = variance_in recs (bracket_of taus tols n policy k tau) k tau

-- ---- of a run that a caller hands in: its tests first

-- the tolerance of each node
abbrev pub tols_of : Run → List Float
tols_of run = tolerances_of (taus_of run.recs) run.count

-- the nodes of a run
abbrev pub nodes_of : Run → Nodes
nodes_of run = record { count = run.count; taus = taus_of run.recs; tols = tols_of run }

unfoldable pub bracket_in : Run → ShortExpiryPolicy → Float → Float → Result Bracket ℕ
bracket_in run policy k tau = bracket_of (taus_of run.recs) (tols_of run) run.count policy k tau

-- `bracket`
unfoldable pub bracket_run : Run → ShortExpiryPolicy → Float → Float → Result Bracket ℕ
bracket_run run policy k tau = refusing (check_run run) Err (bracket_in run policy k tau)

-- `region`
unfoldable pub region_run : Run → ShortExpiryPolicy → Float → Float → Result Region ℕ
region_run run policy k tau = refusing (check_run run) Err (region_in run.recs (bracket_in run policy k tau) k)

-- `total_variance`
unfoldable pub total_run : Run → ShortExpiryPolicy → Float → Float → Result TotalVariance ℕ
total_run run policy k tau =
    refusing (check_run run) Err
    (variance_at run.recs (taus_of run.recs) (tols_of run) run.count policy k tau)

-- ---- a grid that holds every node

abbrev pub all_held_turn : List SviSlice → List Float → ℕ → Bool → Bool
all_held_turn recs taus i ok = ok && held_of taus (slice_at recs i).tau

unfoldable pub all_held : List SviSlice → ℕ → List Float → Bool
all_held recs n taus = for 0 n (all_held_turn recs taus) true

-- 11, an axis over 64; the surface's numbers; 40 and 41
unfoldable pub surface_grid_number : Run → List Float → List Float → ℕ
surface_grid_number run ks taus =
    cond (ltb 64 (length ks) || ltb 64 (length taus)) 11
    (refusing (check_run run) (λ n. n)
    (grid_number ks taus))

-- `covers_nodes`: whether the tau axis holds the bits of every node
unfoldable pub covers_run : Run → List Float → List Float → Result Bool ℕ
covers_run run ks taus = refusing (surface_grid_number run ks taus) Err (Ok (all_held run.recs run.count taus))
