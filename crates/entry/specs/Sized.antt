-- What the code behind the entry checks asks for. No promise rests on it: the public functions have no such condition.
use Rattle.std.specs.Prelude.{◌≡◌, List, ◌≤◌, length, Float}
use Rattle.records.specs.declared.FitConfig.{FitConfig}

pub record Sized (c : FitConfig) (ks ws weights : List Float) : Type 0 where
  pub least : 5 ≤ length ks
  pub most : length ks ≤ 256
  pub ws_long : length ws ≡ length ks
  pub weights_long : length weights ≡ length ks
  pub grid : c.grid ≤ 255
  pub refinements : c.refinements ≤ 1000
  pub recentres : c.max_recentres ≤ 1000
