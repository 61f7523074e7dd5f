-- The lookup of a tau among the nodes of a surface (svi.rs: `node_tolerance`, `bracket`). The tolerances are handed in. Definitions only.
-- docs/METHOD.md, 'Surfaces and diagnostics'.
use Rattle.std.specs.Prelude.{Bool, cond, List, ℕ, ◌+◌, ◌-◌, eqb, ltb, set, replicate, Float, Result, Ok, Err}
use Rattle.std.specs.Float.Ieee.{lt, le}
use Rattle.laws.specs.Choice.{refusing}
use Rattle.laws.specs.Floats.{◌-f◌, ◌*f◌, ◌/f◌, f64, +0, quarter, one, at, abs_of, min_of}
use Rattle.laws.specs.Loop.{for, first}
use Rattle.point.specs.Point.{point_number}
use Rattle.surface.specs.declared.types.ShortExpiryPolicy.{ShortExpiryPolicy}
use Rattle.surface.specs.declared.types.ShortExpiryPolicy.TheVariants.{Reject, ConstantVol}
use Rattle.surface.specs.declared.types.Bracket.{Bracket}
use Rattle.surface.specs.declared.types.Bracket.TheVariants.{Segment, Short}

-- ---- the tolerance of a node

-- 1e-12
abbrev pub node_tolerance : Float
node_tolerance = f64 0x3d71_9799_812d_ea11

-- at most a quarter of the gap to the node before, where there is one
unfoldable pub before_of : List Float → ℕ → Float → Float
before_of taus i tol = cond (eqb i 0) tol (min_of tol (quarter *f (at taus i -f at taus (i - 1))))

-- at most a quarter of the gap to the node after, where there is one
unfoldable pub after_of : List Float → ℕ → ℕ → Float → Float
after_of taus n i tol = cond (ltb (i + 1) n) (min_of tol (quarter *f (at taus (i + 1) -f at taus i))) tol

-- `node_tolerance` of node i of n
unfoldable pub tolerance_of : List Float → ℕ → ℕ → Float
tolerance_of taus n i = after_of taus n i (before_of taus i (node_tolerance *f at taus i))

abbrev pub tolerance_turn : List Float → ℕ → ℕ → List Float → List Float
tolerance_turn taus n i tols = set tols i (tolerance_of taus n i)

-- the tolerance of each of n nodes, zeros behind them; over 32 nodes, which no lookup takes, zeros
unfoldable pub tolerances_of : List Float → ℕ → List Float
tolerances_of taus n = cond (ltb 32 n) (replicate 32 +0) (for 0 n (tolerance_turn taus n) (replicate 32 +0))

-- ---- the bracket of a tau

unfoldable pub near_of : Float → Float → Float → Bool
near_of node tau tol = le (abs_of (node -f tau)) tol

abbrev pub near_at : List Float → List Float → Float → ℕ → Bool
near_at taus tols tau i = near_of (at taus i) tau (at tols i)

-- the first node within its tolerance of tau, or n
unfoldable pub node_of : List Float → List Float → ℕ → Float → ℕ
node_of taus tols n tau = first (near_at taus tols tau) 0 n

abbrev pub beyond_at : List Float → Float → ℕ → Bool
beyond_at taus tau i = lt tau (at taus i)

-- the first node beyond tau from the second on, or n
unfoldable pub beyond_of : List Float → ℕ → Float → ℕ
beyond_of taus n tau = first (beyond_at taus tau) 1 n

-- node 0: the segment 0..1, x exactly 0; node j: the segment j-1..j, x exactly 1
unfoldable pub on_node : ℕ → Bracket
on_node j = cond (eqb j 0) (Segment 0 1 +0) (Segment (j - 1) j one)

-- before the first node: 36, or the first slice alone
abbrev pub short_of : ShortExpiryPolicy → Result Bracket ℕ
short_of Reject = Err 36
short_of ConstantVol = Ok Short

-- between the node before h and h, x the share of the gap; 37 where no node is beyond tau
unfoldable pub inside_of : List Float → ℕ → Float → ℕ → Result Bracket ℕ
inside_of taus n tau h = cond (ltb h n) (Ok (Segment (h - 1) h ((tau -f at taus (h - 1)) /f (at taus h -f at taus (h - 1))))) (Err 37)

-- on a node; before the first; in a segment, or beyond the last
unfoldable pub lookup_of : List Float → List Float → ℕ → ShortExpiryPolicy → Float → Result Bracket ℕ
lookup_of taus tols n policy tau =
    cond (ltb (node_of taus tols n tau) n) (Ok (on_node (node_of taus tols n tau)))
    (cond (lt tau (at taus 0)) (short_of policy)
    (inside_of taus n tau (beyond_of taus n tau)))

-- 11, over 32 nodes; 34, 35, the point; then the lookup
unfoldable pub bracket_of : List Float → List Float → ℕ → ShortExpiryPolicy → Float → Float → Result Bracket ℕ
bracket_of taus tols n policy k tau =
    cond (ltb 32 n) (Err 11)
    (refusing (point_number k tau) Err
    (lookup_of taus tols n policy tau))

-- the policy of a caller who names none
abbrev pub default_policy : ShortExpiryPolicy
default_policy = ConstantVol
