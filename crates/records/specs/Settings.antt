-- The eleven settings of the fit: their defaults, their ranges, and their sizes. Definitions only.
-- docs/METHOD.md, 'Before the search'.
use Rattle.std.specs.Prelude.{Bool, ◌&&◌, ℕ, leb}
use Rattle.std.specs.Float.Ieee.{lt}
use Rattle.laws.specs.Floats.{f64, positive}
use Rattle.records.specs.declared.FitConfig.{FitConfig}

-- `FitConfig::default`: 21, 12, 40, 0.005, 10, 1e-8, 5, 0.02, 1e-12, 1e-12, 10
abbrev pub defaults_of : FitConfig
defaults_of =
    record {
      grid = 21;
      refinements = 12;
      max_recentres = 40;
      sigma_lo = f64 0x3f74_7ae1_47ae_147b;
      sigma_hi = f64 0x4024_0000_0000_0000;
      a_min = f64 0x3e45_798e_e230_8c3a;
      min_observations = 5;
      max_rmse_vol = f64 0x3f94_7ae1_47ae_147b;
      pivot_tolerance = f64 0x3d71_9799_812d_ea11;
      feasibility_tolerance = f64 0x3d71_9799_812d_ea11;
      max_weight_ratio = f64 0x4024_0000_0000_0000;
    }

-- `validate`, refusal 1 unless it holds: the grid and the fewest observations at least 5, seven floats finite and positive, sigma_lo below sigma_hi
unfoldable pub settings_hold : FitConfig → Bool
settings_hold c =
    leb 5 c.grid
    && leb 5 c.min_observations
    && (positive c.sigma_lo && positive c.sigma_hi)
    && (positive c.a_min && positive c.max_rmse_vol)
    && (positive c.pivot_tolerance && positive c.feasibility_tolerance && positive c.max_weight_ratio)
    && lt c.sigma_lo c.sigma_hi

-- 11: at most 256 observations, grid at most 255, refinements and max_recentres at most 1,000
unfoldable pub sizes_hold : ℕ → FitConfig → Bool
sizes_hold n c = leb n 256 && leb c.grid 255 && leb c.refinements 1000 && leb c.max_recentres 1000
