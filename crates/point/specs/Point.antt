-- What a point's functions answer (surface.rs: `check_point`, `TotalVariance`), on every input. Definitions only.
-- docs/METHOD.md, 'Surfaces and diagnostics'.
use Rattle.std.specs.Prelude.{◌&&◌, ℕ, Float, Result, Ok, Err}
use Rattle.laws.specs.Choice.{unless, refusing}
use Rattle.laws.specs.Floats.{finite, positive}
use Rattle.point.specs.declared.TotalVariance.{TotalVariance}

-- `check_point`: 34, k not finite; 35, tau not finite and positive; 0 for a good point
unfoldable pub point_number : Float → Float → ℕ
point_number k tau = unless (finite k) 34 (unless (positive tau) 35 0)

-- 38, w not finite and positive; 39, a derivative not finite; 0 for a good value
unfoldable pub total_number : TotalVariance → ℕ
total_number v = unless (positive v.w) 38 (unless ((finite v.w_k && finite v.w_kk) && finite v.w_tau) 39 0)

-- `TotalVariance::new`
unfoldable pub total_of : Float → Float → Float → Float → Result TotalVariance ℕ
total_of w wk wkk wtau =
    let v : TotalVariance = record { w = w; w_k = wk; w_kk = wkk; w_tau = wtau } in
    refusing (total_number v) Err (Ok v)
